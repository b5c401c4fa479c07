-- Laws of a row of coefficients applied to a vector.
use mathlib.Core.Path.{◌≡◌, refl, ap, ap₂, ◌∙◌}
use mathlib.Core.Logic.{◌≢◌}
use Prim.Native.Nat.{ℕ, ◌<◌}
use native.Mathlib.Decide.{ℕ_discrete}
use Rattle.algebra.specs.Field.{Field}
use Rattle.algebra.specs.Sum.{sum}
use Rattle.algebra.specs.Square.{dot, unit}
use Rattle.algebra.proofs.Field.{ring, zero-mul, one-mul, mul-add}
use Rattle.algebra.proofs.Pick.{pick_yes, pick_no}
use Rattle.algebra.proofs.Sum.{sum_ext, sum_zero, sum_add, sum_scale, sum_one}

module _ (K : Field) where
  infixl 65 ◌⊕◌
  infixl 70 ◌⊗◌
  open K use {carrier as F, 𝟘, 𝟙, add as ◌⊕◌, mul as ◌⊗◌}

  -- Equal rows and vectors have equal products.
  pub dot_ext : (m : ℕ) {r s v w : ℕ → F} → ((j : ℕ) → j < m → r j ≡ s j) → ((j : ℕ) → j < m → v j ≡ w j)
      → dot K m r v ≡ dot K m s w
  unfolding dot
  dot_ext m h k = sum_ext K m (λ j l. ap₂ ◌⊗◌ (h j l) (k j l))

  -- Row and vector may change places.
  pub dot_comm : (m : ℕ) (r v : ℕ → F) → dot K m r v ≡ dot K m v r
  unfolding dot
  dot_comm m r v = sum_ext K m (λ j l. K.mul_comm (r j) (v j))

  -- A row and a multiple of another.
  pub dot_combine : (m : ℕ) (r s v : ℕ → F) (c : F)
      → dot K m (λ j. r j ⊕ c ⊗ s j) v ≡ dot K m r v ⊕ c ⊗ dot K m s v
  unfolding dot
  dot_combine m r s v c =
      sum_ext K m (λ j l. simp ring) ∙ sum_add K m (λ j. r j ⊗ v j) (λ j. c ⊗ (s j ⊗ v j))
      ∙ ap (λ x. sum K m (λ j. r j ⊗ v j) ⊕ x) (sum_scale K m c (λ j. s j ⊗ v j))

  -- The sum of two vectors.
  pub dot_add_right : (m : ℕ) (r v w : ℕ → F) → dot K m r (λ j. v j ⊕ w j) ≡ dot K m r v ⊕ dot K m r w
  unfolding dot
  dot_add_right m r v w = sum_ext K m (λ j l. simp mul-add) ∙ sum_add K m (λ j. r j ⊗ v j) (λ j. r j ⊗ w j)

  -- A row of zeros.
  pub dot_none : (m : ℕ) (r v : ℕ → F) → ((j : ℕ) → j < m → r j ≡ 𝟘) → dot K m r v ≡ 𝟘
  unfolding dot
  dot_none m r v z = sum_zero K m (λ j l. rw (z j l, zero-mul))

  -- A vector of zeros.
  pub dot_zeros : (m : ℕ) (r : ℕ → F) → dot K m r (λ j. 𝟘) ≡ 𝟘
  dot_zeros m r = dot_comm m r (λ j. 𝟘) ∙ dot_none m (λ j. 𝟘) r (λ j l. refl)

  -- A row that is 1 at i and 0 elsewhere takes the vector's entry at i.
  pub dot_unit : (m i : ℕ) (r v : ℕ → F) → i < m → r i ≡ 𝟙 → ((j : ℕ) → j < m → j ≢ i → r j ≡ 𝟘) → dot K m r v ≡ v i
  unfolding dot
  dot_unit m i r v l e z = sum_one K m i (λ j. r j ⊗ v j) l (λ j k n. rw (z j k n, zero-mul)) ∙ rw (e, one-mul)

  -- The unit vector is 1 at its place.
  pub unit_at_lem : (p : ℕ) → unit K p p ≡ 𝟙
  unit_at_lem p = pick_yes (ℕ_discrete p p) 𝟙 𝟘 refl

  -- It is 0 elsewhere.
  pub unit_off : (p j : ℕ) → j ≢ p → unit K p j ≡ 𝟘
  unit_off p j n = pick_no (ℕ_discrete j p) 𝟙 𝟘 n

  -- The unit vector takes the row's entry.
  pub dot_pick : (m p : ℕ) (r : ℕ → F) → p < m → dot K m r (unit K p) ≡ r p
  dot_pick m p r l = dot_comm m r (unit K p) ∙ dot_unit m p (unit K p) r l (unit_at_lem p) (λ j k n. unit_off p j n)
