-- What the documents say of logarithms, products and inverses.
use mathlib.Core.Path.{◌≡◌, refl}
use native.Mathlib.Omega.{arith}
use Rattle.gf256.specs.Field.{◌⊕◌, double, log, log_from}
use Rattle.gf256.specs.Laws.{LogarithmLaws, ProductLaws, InverseLaws}
use Rattle.gf256.proofs.Tables.{log_lt, power_log}
use Rattle.gf256.proofs.Powers.{mul_power, less_small}
use Rattle.gf256.proofs.Inverses.{inverted_zero, inverted_above, none_zero, byte_product, product_byte}

log_one : log 1 ≡ 0
unfolding log log_from
log_one = refl

log_zero : log 0 ≡ 0
unfolding log log_from double ◌⊕◌
log_zero = refl

pub logarithm_laws : LogarithmLaws
logarithm_laws = record {
  small = λ a h. omega (arith, log_lt a h);
  of_one = log_one;
  of_zero = log_zero;
  power_at = power_log;
}

pub product_laws : ProductLaws
product_laws = record {
  by_logarithms = λ a b p h q k. mul_power p h q k;
  small = λ a b h k. less_small (log_lt a h) (log_lt b k);
}

pub inverse_laws : InverseLaws
inverse_laws = record {
  none = λ a h. (none_zero a, inverted_zero);
  byte = λ a b h. (byte_product a b h, product_byte a b h);
  handed = λ a p h. inverted_above p;
}
