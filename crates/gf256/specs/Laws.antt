-- What document 01 says of logarithms, and document 02 of products (K4) and of inverses (K10), as statements about the
-- definitions of Field.antt.
--
-- LogarithmLaws : what the logarithms are                      logarithm_laws
-- less_cycle n   : n, less 255 where it is above 254
-- ProductLaws   : what the products are by the logarithms      product_laws
-- InverseLaws   : what the inverses are                        inverse_laws
-- Shown in proofs/Laws.antt, under the name beside each.
use Rattle.std.specs.Prelude.{◌≡◌, ◌↔◌, cond, ℕ, ◌+◌, ◌-◌, ◌≤◌, ◌<◌, ltb, None, Some}
use Rattle.gf256.specs.Field.{◌⊗◌, power, log, inverse, inverted_of}

pub record LogarithmLaws : Type 0 where
  -- 'logarithms lie in 0..254'
  pub small : (a : ℕ) → a < 256 → log a ≤ 254
  -- 'so that of 1 is 0'
  pub of_one : log 1 ≡ 0
  -- 'the entry for 0, which has no logarithm, holds 0'
  pub of_zero : log 0 ≡ 0
  -- They are logarithms: the power at the logarithm of any byte but 0 is that byte.
  pub power_at : (a : ℕ) → 0 < a → a < 256 → power (log a) ≡ a

-- K4: 'less 255 where that is above 254'
unfoldable pub less_cycle : ℕ → ℕ
less_cycle n = cond (ltb 254 n) (n - 255) n

pub record ProductLaws : Type 0 where
  -- K4: 'for two nonzero bytes this is the power at the sum of their logarithms, less 255 where that is above 254'
  pub by_logarithms : (a b : ℕ) → 0 < a → a < 256 → 0 < b → b < 256 → a ⊗ b ≡ power (less_cycle (log a + log b))
  -- That number is a logarithm again: 'logarithms lie in 0..254'.
  pub small : (a b : ℕ) → a < 256 → b < 256 → less_cycle (log a + log b) ≤ 254

pub record InverseLaws : Type 0 where
  -- K10: 'there is none for zero', and for zero alone
  pub none : (a : ℕ) → a < 256 → (inverted_of a ≡ None) ↔ (a ≡ 0)
  -- 'and hand over the byte otherwise': the one byte whose product with a is 1. So 0 is the inverse of no byte, and 0
  -- has none because no product with 0 is 1.
  pub byte : (a b : ℕ) → a < 256 → (inverted_of a ≡ Some b) ↔ ((b < 256) × (a ⊗ b ≡ 1))
  -- It is the `inverse` by which contracts speak of quotients.
  pub handed : (a : ℕ) → 0 < a → a < 256 → inverted_of a ≡ Some (inverse a)
