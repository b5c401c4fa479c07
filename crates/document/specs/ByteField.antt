-- 'The field has 256 elements': the byte field of `gf256` as a field of the algebra.
--
-- bytes    : the field
-- Byte     : its elements
-- byte a   : the element with the number a, 'the field element with that number'; above 255, its lowest eight bits
--            count
-- number b : the number of the element b
use Rattle.std.specs.Prelude.{◌≡◌}
use Rattle.std.proofs.Common.{ap, mod-lt, arith, lit<}
use Prim.Native.Nat.{ℕ, ◌%◌, ◌<◌, Fin}
use Rattle.std.proofs.Math.Decide.{Fin-discrete}
use Rattle.gf256.specs.Field.{◌⊕◌, ◌⊗◌, inverse}
use Rattle.gf256.proofs.Ring as R
use Rattle.algebra.specs.Field.{Field}

unfoldable pub bytes : Field
bytes = record {
  carrier = Fin 256;
  𝟘 = (0, lit< tt);
  𝟙 = (1, lit< tt);
  add = λ a b. (a.0 ⊕ b.0, R.add_lt a.1 b.1);
  mul = λ a b. (a.0 ⊗ b.0, R.mul_lt a.0 b.0);
  inv = λ a. (inverse a.0, R.inverse_lt a.0);
  eq? = Fin-discrete 256;
  add_comm = λ a b. native.Mathlib.Fin.val_path (R.add_comm a.0 b.0);
  add_assoc = λ a b c. native.Mathlib.Fin.val_path (R.add_assoc a.0 b.0 c.0);
  add-zero = λ a. native.Mathlib.Fin.val_path (R.add-zero a.0);
  add_self = λ a. native.Mathlib.Fin.val_path (R.add_self a.0);
  mul_comm = λ a b. native.Mathlib.Fin.val_path (R.mul_comm a.0 b.0);
  mul_assoc = λ a b c. native.Mathlib.Fin.val_path (R.mul_assoc a.0 b.0 c.0);
  mul-one = λ a. native.Mathlib.Fin.val_path (R.mul-one a.0 a.1);
  mul-add = λ a b c. native.Mathlib.Fin.val_path (R.mul-add a.0 b.0 c.0);
  mul_inv = λ a d. native.Mathlib.Fin.val_path (R.mul_inverse (above a.0 (λ e. d (native.Mathlib.Fin.val_path e))) a.1);
  one_ne_zero = λ e. absurd (one_zero (ap (λ a. a.0) e));
}
  where
    one_zero : ◌≡◌ {A = ℕ} 1 0 → ⊥
    one_zero e = omega arith

    above : (a : ℕ) → (a ≡ 0 → ⊥) → 0 < a
    above a d = omega arith

abbrev pub Byte : Type 0
Byte = bytes.carrier

unfoldable pub byte : ℕ → Byte
unfolding bytes
byte a = (a % 256, mod-lt a (lit< tt))

unfoldable pub number : Byte → ℕ
unfolding bytes
number a = a.0
