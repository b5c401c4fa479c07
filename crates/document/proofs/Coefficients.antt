-- Each stored symbol is the sum of the data symbols, each times its coefficient there.
use mathlib.Core.Path.{◌≡◌, sym, ap, ◌∙◌}
use mathlib.Core.List.{List}
use Prim.Native.Nat.{ℕ, ◌+◌, ◌*◌, ◌/◌, ◌%◌, ◌<◌}
use native.Mathlib.Nat.{mul_comm}
use native.Mathlib.Decide.{ℕ_discrete}
use Rattle.algebra.specs.Pick.{pick}
use Rattle.algebra.specs.Sum.{sum}
use Rattle.algebra.specs.Weight.{weight}
use Rattle.algebra.specs.Coupling.{stored}
use Rattle.algebra.specs.Encoding.{symbols, unit_symbols}
use Rattle.algebra.proofs.Sum.{sum_ext, sum_grid}
use Rattle.algebra.proofs.Encoding.{stored_sum}
use Rattle.document.specs.declared.Profile.{Profile}
use Rattle.document.specs.declared.Place.{Place}
use Rattle.document.specs.Profile.{Accepted}
use Rattle.document.specs.Places.{place, Within}
use Rattle.document.specs.ByteField.{bytes, Byte, byte}
use Rattle.document.specs.Encoding.{byte_at, base_at, factor_at, coupled_at, encoded}
use Rattle.document.specs.Reading.{coefficient_at, data_place}
use Rattle.document.proofs.Bounds.{A>0}
use Rattle.document.proofs.Arrays.{laid_byte}
use Rattle.document.proofs.Columns.{coupled_stored}

infixl 65 ◌⊕◌
infixl 70 ◌⊗◌
open bytes use {𝟘, add as ◌⊕◌, mul as ◌⊗◌}

module _ (p : Profile) where
  open p use {n, k, a as A, s as S}

  -- A coefficient is what the algebra stores for the data that are 1 at row r, node q and 0 elsewhere.
  coefficient_stored : (j i q r : ℕ)
      → coefficient_at p (place j i) (place q r) ≡ stored bytes A (factor_at p) (unit_symbols bytes k byte r q) i j
  unfolding coefficient_at unit_symbols
  coefficient_stored j i q r =
      coupled_stored p
      (λ u. pick (ℕ_discrete u.row.0 r) (weight bytes k byte q (byte u.node.0)) 𝟘) i j

  -- It has two parts: what the symbol gives to the place itself, and what it gives to the place's partner.
  pub coefficient_two : (j i q r : ℕ)
      → coefficient_at p (place j i) (place q r)
      ≡ pick (ℕ_discrete i r) (weight bytes k byte q (byte j)) 𝟘
      ⊕ factor_at p i (j % A) ⊗ pick (ℕ_discrete (j % A) r) (weight bytes k byte q (byte (j / A * A + i))) 𝟘
  unfolding stored unit_symbols
  coefficient_two = coefficient_stored

  module _ (acc : Accepted p) (d : List ℕ) (b : ℕ) (q : Place) (w : Within p q) where
    -- What is stored at a place for the data d, at one byte offset.
    pub place_sum : coupled_at p (base_at p d b) q
        ≡ sum bytes (k * A) (λ e. coefficient_at p q (data_place p e) ⊗ byte_at p d b (data_place p e))
    unfolding base_at symbols
    place_sum =
        coupled_stored p (base_at p d b) i j
        ∙ stored_sum bytes k byte A (λ r m. byte_at p d b (place m r)) (A>0 p acc) (factor_at p) i j w.row
        ∙ sym (sum_grid bytes A k term)
        ∙ sum_ext bytes (A * k)
        (λ e l. ap (λ (x : Byte). x ⊗ byte_at p d b (data_place p e)) (sym (coefficient_stored j i (e % k) (e / k))))
        ∙ ap (λ (m : ℕ). sum bytes m (λ e. coefficient_at p q (data_place p e) ⊗ byte_at p d b (data_place p e)))
        (mul_comm A k)
      where
        j : ℕ
        j = q.node.0

        i : ℕ
        i = q.row.0

        term : ℕ → ℕ → Byte
        term r m = stored bytes A (factor_at p) (unit_symbols bytes k byte r m) i j ⊗ byte_at p d b (place m r)

    -- So it is in the encoded array.
    pub encoded_sum : b < S
        → byte_at p (encoded p d) b q
        ≡ sum bytes (k * A) (λ e. coefficient_at p q (data_place p e) ⊗ byte_at p d b (data_place p e))
    unfolding encoded
    encoded_sum l =
        laid_byte p n (λ b. coupled_at p (base_at p d b)) b q.node.0 q.row.0 l w.node w.row ∙ place_sum
