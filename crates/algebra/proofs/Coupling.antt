-- Coupling and its inverse, for any factor table, and the laws of document 01's table.
use mathlib.Core.Path.{◌≡◌, refl, sym, ap, ap₂, ◌∙◌}
use mathlib.Core.Logic.{◌≢◌}
use Prim.Native.Nat.{ℕ, ◌+◌, ◌*◌, ◌/◌, ◌%◌, ◌<◌}
use native.Mathlib.Nat.{div-add-mod', mod-lt}
use native.Mathlib.Omega.{arith}
use native.Mathlib.Decide.{ℕ_discrete, dec_lt}
use lib.Arith.{digits_div, digits_mod}
use Rattle.algebra.specs.Field.{Field}
use Rattle.algebra.specs.Coupling.{Array, partner_node, stored, pair, base, factor}
use Rattle.algebra.proofs.Field.{
  ring,
  add-zero,
  zero-mul,
  mul-one,
  one-mul,
  mul_comm,
  add_ne_zero,
  inv_mul_left,
}
use Rattle.algebra.proofs.Pick.{pick_yes, pick_no}

module _ (A : ℕ) where
  -- The partner lies in the same group.
  pub partner_group : (i j : ℕ) → i < A → partner_node A i j / A ≡ j / A
  partner_group i j l = digits_div (j / A) l

  -- The partner's local column is the row.
  pub partner_local : (i j : ℕ) → i < A → partner_node A i j % A ≡ i
  partner_local i j l = digits_mod (j / A) l

  -- The partner's partner is the place itself.
  pub partner_partner : (i j : ℕ) → i < A → partner_node A (j % A) (partner_node A i j) ≡ j
  partner_partner i j l = ap (λ g. g * A + j % A) (partner_group i j l) ∙ div-add-mod' j A

module _ (K : Field) (A : ℕ) (θ : ℕ → ℕ → K.carrier) where
  infixl 65 ◌⊕◌
  infixl 70 ◌⊗◌
  open K use {carrier as F, 𝟘, 𝟙, add as ◌⊕◌, mul as ◌⊗◌, inv}

  -- The stored symbols of a pair, taken apart: their determinant comes out.
  uncouple : (a b p q : F) → a ⊕ p ⊗ b ⊕ p ⊗ (b ⊕ q ⊗ a) ≡ (𝟙 ⊕ p ⊗ q) ⊗ a
  uncouple a b p q = simp ring

  -- The symbols of a pair, coupled again: their determinant comes out.
  recouple : (x y p q d : F) → d ⊗ (x ⊕ p ⊗ y) ⊕ p ⊗ (d ⊗ (y ⊕ q ⊗ x)) ≡ d ⊗ ((𝟙 ⊕ p ⊗ q) ⊗ x)
  recouple x y p q d = simp ring

  -- What is stored at the partner's place.
  pub stored_partner : (a : Array K) (i j : ℕ) → i < A
      → stored K A θ a (j % A) (partner_node A i j) ≡ a (j % A) (partner_node A i j) ⊕ θ (j % A) i ⊗ a i j
  unfolding stored
  stored_partner a i j l = rw (stored, partner_local A i j l, partner_partner A i j l)

  -- The base symbol at the partner's place.
  base_partner : (x : Array K) (i j : ℕ) → i < A
      → base K A θ x (j % A) (partner_node A i j)
      ≡ inv (pair K θ (j % A) i) ⊗ (x (j % A) (partner_node A i j) ⊕ θ (j % A) i ⊗ x i j)
  unfolding base
  base_partner x i j l = rw (base, partner_local A i j l, partner_partner A i j l)

  -- x and y have the same symbol at the partner of row i, node j, or its factor is zero.
  abbrev pub SamePartner : Array K → Array K → ℕ → ℕ → Type 0
  SamePartner x y i j =
      θ i (j % A) ⊗ x (j % A) (partner_node A i j) ≡ θ i (j % A) ⊗ y (j % A) (partner_node A i j)

  -- What is stored at a place turns on the base symbols there and at the partner alone.
  pub stored_ext : (a b : Array K) (i j : ℕ) → a i j ≡ b i j → SamePartner a b i j
      → stored K A θ a i j ≡ stored K A θ b i j
  unfolding stored
  stored_ext a b i j e h = ap₂ ◌⊕◌ e h

  -- The base symbol at a place turns on what is stored there and at the partner alone.
  pub base_ext : (x y : Array K) (i j : ℕ) → x i j ≡ y i j → SamePartner x y i j
      → base K A θ x i j ≡ base K A θ y i j
  unfolding base
  base_ext x y i j e h = ap₂ (λ u v. inv (pair K θ i (j % A)) ⊗ (u ⊕ v)) e h

  module _ (A>0 : 0 < A) (pairs : (i l : ℕ) → i < A → l < A → pair K θ i l ≢ 𝟘) where
    -- The base array of what is stored is the base array.
    pub base_stored : (a : Array K) (i j : ℕ) → i < A → base K A θ (stored K A θ a) i j ≡ a i j
    unfolding base stored
    base_stored a i j l =
        let b : F = a (j % A) (partner_node A i j) in
        let p : F = θ i (j % A) in
        ap (λ y. inv (pair K θ i (j % A)) ⊗ (a i j ⊕ p ⊗ b ⊕ p ⊗ y)) (stored_partner a i j l)
        ∙ ap (λ y. inv (pair K θ i (j % A)) ⊗ y) (uncouple (a i j) b p (θ (j % A) i))
        ∙ inv_mul_left K (pair K θ i (j % A)) (a i j) (pairs i (j % A) l (mod-lt j A>0))

    -- What is stored for the base array of any stored array is that array.
    pub stored_base : (x : Array K) (i j : ℕ) → i < A → stored K A θ (base K A θ x) i j ≡ x i j
    unfolding stored base
    stored_base x i j l =
        let p : F = θ i (j % A) in
        let q : F = θ (j % A) i in
        let y : F = x (j % A) (partner_node A i j) in
        ap (λ z. inv (pair K θ i (j % A)) ⊗ (x i j ⊕ p ⊗ y) ⊕ p ⊗ z)
        (base_partner x i j l ∙ ap (λ z. inv (𝟙 ⊕ z) ⊗ (y ⊕ q ⊗ x i j)) (mul_comm K q p))
        ∙ recouple (x i j) y p q (inv (pair K θ i (j % A)))
        ∙ inv_mul_left K (pair K θ i (j % A)) (x i j) (pairs i (j % A) l (mod-lt j A>0))

-- What holds on the diagonal, above it and below it holds of all rows and local columns.
cases : {P : ℕ → ℕ → Type 0} → ((i : ℕ) → P i i) → ((i l : ℕ) → i < l → P i l) → ((i l : ℕ) → l < i → P i l)
    → (i l : ℕ) → P i l
cases {P} on above below i l = go (ℕ_discrete i l) (dec_lt i l)
  where
    go : Dec (i ≡ l) → Dec (i < l) → P i l
    go (yes q) s = rw q (on l)
    go (no q) (yes s) = above i l s
    go (no q) (no s) = below i l (omega arith)

module _ (K : Field) (c : ℕ → ℕ → K.carrier) where
  infixl 65 ◌⊕◌
  infixl 70 ◌⊗◌
  open K use {𝟘, 𝟙, add as ◌⊕◌, mul as ◌⊗◌, one_ne_zero}

  -- Row i at local column i is not coupled.
  pub factor_diagonal : (i : ℕ) → factor K c i i ≡ 𝟘
  unfolding factor
  factor_diagonal i = pick_yes (ℕ_discrete i i) _ _ refl

  -- The upper strip takes its partner once.
  pub factor_upper : (i l : ℕ) → i < l → factor K c i l ≡ 𝟙
  unfolding factor
  factor_upper i l h = pick_no (ℕ_discrete i l) _ _ (omega arith) ∙ pick_yes (dec_lt i l) _ _ h

  -- The lower strip takes it times the constant.
  pub factor_lower : (i l : ℕ) → l < i → factor K c i l ≡ c i l
  unfolding factor
  factor_lower i l h = pick_no (ℕ_discrete i l) _ _ (omega arith) ∙ pick_no (dec_lt i l) _ _ (omega arith)

  -- Off the diagonal no factor is zero, where no constant is.
  pub factor_ne : (A : ℕ) → ((i l : ℕ) → i < A → l < i → c i l ≢ 𝟘)
      → (i l : ℕ) → i < A → l < A → i ≢ l → factor K c i l ≢ 𝟘
  factor_ne A c≢𝟘 = cases {P = λ i l. i < A → l < A → i ≢ l → factor K c i l ≢ 𝟘}
      (λ i a b d. absurd (d refl))
      (λ i l h a b d. rw (factor_upper i l h) one_ne_zero)
      (λ i l h a b d. rw (factor_lower i l h) (c≢𝟘 i l a h))

  -- The determinants: none on the diagonal, and off it that of the lower strip's constant.
  pub pair_diagonal : (i : ℕ) → pair K (factor K c) i i ≡ 𝟙
  pair_diagonal i =
      ap (λ z. 𝟙 ⊕ z ⊗ z) (factor_diagonal i) ∙ ap (λ z. 𝟙 ⊕ z) (zero-mul K 𝟘) ∙ add-zero K 𝟙

  pub pair_upper : (i l : ℕ) → i < l → pair K (factor K c) i l ≡ 𝟙 ⊕ c l i
  pair_upper i l h =
      ap₂ (λ u v. 𝟙 ⊕ u ⊗ v) (factor_upper i l h) (factor_lower l i h) ∙ ap (λ z. 𝟙 ⊕ z) (one-mul K (c l i))

  pub pair_lower : (i l : ℕ) → l < i → pair K (factor K c) i l ≡ 𝟙 ⊕ c i l
  pair_lower i l h =
      ap₂ (λ u v. 𝟙 ⊕ u ⊗ v) (factor_lower i l h) (factor_upper l i h) ∙ ap (λ z. 𝟙 ⊕ z) (mul-one K (c i l))

  -- Every pair can be taken apart, where no constant is 1.
  pub pair_ne : (A : ℕ) → ((i l : ℕ) → i < A → l < i → c i l ≢ 𝟙)
      → (i l : ℕ) → i < A → l < A → pair K (factor K c) i l ≢ 𝟘
  pair_ne A c≢𝟙 = cases {P = λ i l. i < A → l < A → pair K (factor K c) i l ≢ 𝟘}
      (λ i a b. rw (pair_diagonal i) one_ne_zero)
      (λ i l h a b. rw (pair_upper i l h) (sum_ne l i b h))
      (λ i l h a b. rw (pair_lower i l h) (sum_ne i l a h))
    where
      sum_ne : (i l : ℕ) → i < A → l < i → 𝟙 ⊕ c i l ≢ 𝟘
      sum_ne i l a h = add_ne_zero K 𝟙 (c i l) (λ e. c≢𝟙 i l a h (sym e))
