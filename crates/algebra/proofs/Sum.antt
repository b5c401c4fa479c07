-- Laws of finite sums.
use mathlib.Core.Path.{◌≡◌, refl, sym, ap, ap₂, ◌∙◌}
use mathlib.Core.Logic.{◌≢◌}
use Prim.Native.Nat.{ℕ, zero, suc, ◌+◌, ◌*◌, ◌/◌, ◌%◌, ◌<◌}
use native.Mathlib.Nat as N
use native.Mathlib.Omega.{arith}
use native.Mathlib.Decide.{ℕ_discrete}
use lib.Arith.{digits_div, digits_mod}
use Rattle.algebra.specs.Field.{Field}
use Rattle.algebra.specs.Sum.{sum}
use Rattle.algebra.proofs.Field.{ring, add-zero, zero-add}

module _ (K : Field) where
  infixl 65 ◌⊕◌
  infixl 70 ◌⊗◌
  open K use {carrier as F, 𝟘, add as ◌⊕◌, mul as ◌⊗◌}

  -- Sums of equal terms are equal.
  pub sum_ext : (n : ℕ) {f g : ℕ → F} → ((i : ℕ) → i < n → f i ≡ g i) → sum K n f ≡ sum K n g
  unfolding sum
  sum_ext zero h = refl
  sum_ext (suc n) h = ap₂ ◌⊕◌ (sum_ext n (λ i l. h i (omega arith))) (h n (omega arith))

  -- A sum of zeros is zero.
  pub sum_zero : (n : ℕ) {f : ℕ → F} → ((i : ℕ) → i < n → f i ≡ 𝟘) → sum K n f ≡ 𝟘
  unfolding sum
  sum_zero zero h = refl
  sum_zero (suc n) h = ap₂ ◌⊕◌ (sum_zero n (λ i l. h i (omega arith))) (h n (omega arith)) ∙ add-zero K 𝟘

  -- A sum of sums is the sum of the two sums.
  pub sum_add : (n : ℕ) (f g : ℕ → F) → sum K n (λ i. f i ⊕ g i) ≡ sum K n f ⊕ sum K n g
  unfolding sum
  sum_add zero f g = simp ring
  sum_add (suc n) f g = simp (sum_add n f g, ring)

  -- A sum of multiples is the multiple of the sum.
  pub sum_scale : (n : ℕ) (c : F) (f : ℕ → F) → sum K n (λ i. c ⊗ f i) ≡ c ⊗ sum K n f
  unfolding sum
  sum_scale zero c f = simp ring
  sum_scale (suc n) c f = simp (sum_scale n c f, ring)

  -- The sum of a function that is zero but at one place j.
  pub sum_one : (n j : ℕ) (f : ℕ → F) → j < n → ((i : ℕ) → i < n → i ≢ j → f i ≡ 𝟘) → sum K n f ≡ f j
  unfolding sum
  sum_one zero j f l h = absurd (omega arith)
  sum_one (suc n) j f l h = go (ℕ_discrete n j) (λ l. sum_one n j f l (λ i k. h i (omega arith)))
    where
      go : Dec (n ≡ j) → (j < n → sum K n f ≡ f j) → sum K n f ⊕ f n ≡ f j
      go (yes e) r = rw (sum_zero n {f = f} (λ i k. h i (omega arith) (omega arith)), e, zero-add)
      go (no d) r = rw (r (omega arith), h n (omega arith) d, add-zero)

  -- A sum, its first term apart.
  pub sum_front : (n : ℕ) (f : ℕ → F) → sum K (suc n) f ≡ f 0 ⊕ sum K n (λ i. f (suc i))
  unfolding sum
  sum_front zero f = K.add_comm 𝟘 (f 0)
  sum_front (suc n) f =
      ap (λ x. x ⊕ f (suc n)) (sum_front n f) ∙ K.add_assoc (f 0) (sum K n (λ i. f (suc i))) (f (suc n))

  -- A sum in two parts.
  pub sum_plus : (m n : ℕ) (f : ℕ → F) → sum K (m + n) f ≡ sum K m f ⊕ sum K n (λ i. f (m + i))
  unfolding sum
  sum_plus m zero f = rw N.add-zero (sym (add-zero K (sum K m f)))
  sum_plus m (suc n) f =
      rw N.add-suc (ap (λ x. x ⊕ f (m + n)) (sum_plus m n f)
      ∙ K.add_assoc (sum K m f) (sum K n (λ i. f (m + i))) (f (m + n)))

  -- A sum over A rows of k terms, row by row.
  pub sum_grid : (A k : ℕ) (f : ℕ → ℕ → F)
      → sum K (A * k) (λ e. f (e / k) (e % k)) ≡ sum K A (λ r. sum K k (λ q. f r q))
  unfolding sum
  sum_grid zero k f = rw N.zero-mul
  sum_grid (suc A) k f =
      rw N.suc-mul (sum_plus (A * k) k (λ e. f (e / k) (e % k))
      ∙ ap₂ ◌⊕◌ (sum_grid A k f) (sum_ext k (λ q l. ap₂ f (digits_div A l) (digits_mod A l))))
