-- Polynomials over a field: the factor theorem, the number of roots, interpolation, and what keeps the degree.
use mathlib.Core.Path.{◌≡◌, refl, sym, ap, ap₂, ◌∙◌}
use mathlib.Core.Logic.{◌≢◌}
use mathlib.Core.List.{List, [], ◌∷◌, map}
use Prim.Native.Nat.{ℕ, zero, suc, ◌≤◌, ◌<◌, suc-le-suc}
use native.Mathlib.Omega.{arith}
use native.Mathlib.Decide.{ℕ_discrete, dec_lt}
use lib.ListN.{length, length-map}
use Rattle.algebra.specs.Field.{Field}
use Rattle.algebra.specs.Sum.{sum}
use Rattle.algebra.specs.Polynomial.{eval, Polynomial, DistinctPoints, Avoids}
use Rattle.algebra.proofs.Field.{
  ring,
  add-zero,
  zero-add,
  add_self,
  mul-zero,
  eq_of_add,
  add_ne_zero,
  mul_eq_zero,
  mul_inv_left,
}

module _ (K : Field) where
  infixl 65 ◌⊕◌
  infixl 70 ◌⊗◌
  open K use {carrier as F, 𝟘, 𝟙, add as ◌⊕◌, mul as ◌⊗◌, inv}

  -- Any of the first k distinct points avoids the others.
  pub apart : (k : ℕ) (x : ℕ → F) → DistinctPoints K k x → (j : ℕ) → j < k → Avoids K k x j (x j)
  apart k x d j h i l n = go (dec_lt i j)
    where
      go : Dec (i < j) → x j ≢ x i
      go (yes q) e = d i j q h (sym e)
      go (no q) e = d j i (omega arith) l e

  -- The polynomial c + (x + a) q.
  linear : F → F → List F → List F
  linear a c [] = c ∷ []
  linear a c (d ∷ q) = (c ⊕ a ⊗ d) ∷ linear a d q

  -- It has one coefficient more than q.
  length_linear : (a c : F) (q : List F) → length (linear a c q) ≡ suc (length q)
  unfolding linear
  length_linear a c [] = refl
  length_linear a c (d ∷ q) = ap suc (length_linear a d q)

  -- The step of `eval_linear`.
  linear_step : (a c d q x : F) → c ⊕ a ⊗ d ⊕ x ⊗ (d ⊕ (x ⊕ a) ⊗ q) ≡ c ⊕ (x ⊕ a) ⊗ (d ⊕ x ⊗ q)
  linear_step a c d q x = simp ring

  -- Its value.
  eval_linear : (a c : F) (q : List F) (x : F) → eval K (linear a c q) x ≡ c ⊕ (x ⊕ a) ⊗ eval K q x
  unfolding eval linear
  eval_linear a c [] x = simp ring
  eval_linear a c (d ∷ q) x =
      ap (λ z. c ⊕ a ⊗ d ⊕ x ⊗ z) (eval_linear a d q x) ∙ linear_step a c d (eval K q x) x

  -- The quotient by x + a of a polynomial with any constant term and the other coefficients p.
  quotient : F → List F → List F
  quotient a [] = []
  quotient a (d ∷ p) = eval K (d ∷ p) a ∷ quotient a p

  -- It has one coefficient less than the polynomial.
  length_quotient : (a : F) (p : List F) → length (quotient a p) ≡ length p
  unfolding quotient
  length_quotient a [] = refl
  length_quotient a (d ∷ p) = ap suc (length_quotient a p)

  -- The step of the factor theorem.
  factor_step : (a c e q x : F) → c ⊕ x ⊗ (e ⊕ (x ⊕ a) ⊗ q) ≡ c ⊕ a ⊗ e ⊕ (x ⊕ a) ⊗ (e ⊕ x ⊗ q)
  factor_step a c e q x = simp ring

  -- The factor theorem: a polynomial is its value at a, and a multiple of x + a.
  factor_theorem : (a c : F) (p : List F) (x : F)
      → eval K (c ∷ p) x ≡ eval K (c ∷ p) a ⊕ (x ⊕ a) ⊗ eval K (quotient a p) x
  unfolding eval quotient
  factor_theorem a c [] x = simp (eval, ring)
  factor_theorem a c (d ∷ p) x =
      ap (λ z. c ⊕ x ⊗ z) (factor_theorem a d p x)
      ∙ factor_step a c (d ⊕ a ⊗ eval K p a) (eval K (quotient a p) x) x

  -- The polynomial p is zero at the first k of the points x.
  abbrev pub Roots : ℕ → (ℕ → F) → List F → Type 0
  Roots k x p = (i : ℕ) → i < k → eval K p (x i) ≡ 𝟘

  -- The quotient by x + x k has the other roots.
  root_quotient : (k : ℕ) (x : ℕ → F) → DistinctPoints K (suc k) x → (c : F) (p : List F)
      → Roots (suc k) x (c ∷ p) → Roots k x (quotient (x k) p)
  root_quotient k x d c p h i m =
      mul_eq_zero K (x i ⊕ x k) (eval K (quotient (x k) p) (x i)) (add_ne_zero K (x i) (x k) (d i k m (omega arith)))
      (rw (h i (omega arith), h k (omega arith), zero-add) at (sym (factor_theorem (x k) c p (x i))))

  -- A polynomial with no more coefficients than it has roots is zero everywhere.
  pub roots : (k : ℕ) (x : ℕ → F) → DistinctPoints K k x → (p : List F) → length p ≤ k → Roots k x p
      → (z : F) → eval K p z ≡ 𝟘
  unfolding eval
  roots zero x d [] l h z = refl
  roots zero x d (c ∷ p) l h z = absurd (omega arith)
  roots (suc k) x d [] l h z = refl
  roots (suc k) x d (c ∷ p) l h z =
      let fewer : DistinctPoints K k x = λ i j m n. d i j m (omega arith) in
      let q : List F = quotient (x k) p in
      let short : length q ≤ k = omega (arith, length_quotient (x k) p) in
      let none : eval K q z ≡ 𝟘 = roots k x fewer q short (root_quotient k x d c p h) z in
      factor_theorem (x k) c p z ∙ rw (h k (omega arith), none, mul-zero, add-zero)

  -- A polynomial of k coefficients that has the values y at the first k of the points x.
  abbrev pub Through : ℕ → (ℕ → F) → (ℕ → F) → Type 0
  Through k x y = (p : List F) × (length p ≡ k) × ((i : ℕ) → i < k → eval K p (x i) ≡ y i)

  -- Through k distinct points passes a polynomial of k coefficients.
  pub interpolate : (k : ℕ) (x y : ℕ → F) → DistinctPoints K k x → Through k x y
  interpolate zero x y d = ([], refl, λ i l. absurd (omega arith))
  interpolate (suc k) x y d = go (interpolate k x slope (λ i j m n. d i j m (omega arith)))
    where
      -- what remains at the other points when the value at the last is taken off and x + x k divided out
      slope : ℕ → F
      slope i = inv (x i ⊕ x k) ⊗ (y i ⊕ y k)

      go : Through k x slope → Through (suc k) x y
      go (p, e, h) = (
        linear (x k) (y k) p,
        length_linear _ _ p ∙ ap suc e,
        λ i l. eval_linear (x k) (y k) p (x i) ∙ at i l (ℕ_discrete i k),
      )
        where
          at : (i : ℕ) → i < suc k → Dec (i ≡ k) → y k ⊕ (x i ⊕ x k) ⊗ eval K p (x i) ≡ y i
          at i l (yes m) = rw m (simp ring)
          at i l (no n) =
              let away : x i ⊕ x k ≢ 𝟘 = add_ne_zero K (x i) (x k) (d i k (omega arith) (omega arith)) in
              rw (h i (omega arith), mul_inv_left K (x i ⊕ x k) (y i ⊕ y k) away) (simp ring)

  -- The sum of two polynomials.
  plus : List F → List F → List F
  plus [] q = q
  plus (c ∷ p) [] = c ∷ p
  plus (c ∷ p) (d ∷ q) = (c ⊕ d) ∷ plus p q

  -- It has no more coefficients than the longer of the two.
  length_plus : (k : ℕ) (p q : List F) → length p ≤ k → length q ≤ k → length (plus p q) ≤ k
  unfolding plus
  length_plus k [] q h l = l
  length_plus k (c ∷ p) [] h l = h
  length_plus zero (c ∷ p) (d ∷ q) h l = absurd (omega arith)
  length_plus (suc k) (c ∷ p) (d ∷ q) h l = suc-le-suc (length_plus k p q (omega arith) (omega arith))

  -- The step of `eval_plus`.
  plus_step : (c d x u v : F) → c ⊕ d ⊕ x ⊗ (u ⊕ v) ≡ c ⊕ x ⊗ u ⊕ (d ⊕ x ⊗ v)
  plus_step c d x u v = simp ring

  -- Its value.
  eval_plus : (p q : List F) (x : F) → eval K (plus p q) x ≡ eval K p x ⊕ eval K q x
  unfolding plus eval
  eval_plus [] q x = sym (zero-add K _)
  eval_plus (c ∷ p) [] x = sym (add-zero K _)
  eval_plus (c ∷ p) (d ∷ q) x =
      ap (λ z. c ⊕ d ⊕ x ⊗ z) (eval_plus p q x) ∙ plus_step c d x (eval K p x) (eval K q x)

  -- The step of `eval_scale`.
  scale_step : (a c x u : F) → a ⊗ c ⊕ x ⊗ (a ⊗ u) ≡ a ⊗ (c ⊕ x ⊗ u)
  scale_step a c x u = simp ring

  -- The value of a multiple.
  eval_scale : (a : F) (p : List F) (x : F) → eval K (map (λ c. a ⊗ c) p) x ≡ a ⊗ eval K p x
  unfolding eval
  eval_scale a [] x = sym (mul-zero K a)
  eval_scale a (c ∷ p) x = ap (λ z. a ⊗ c ⊕ x ⊗ z) (eval_scale a p x) ∙ scale_step a c x (eval K p x)

  -- Zero is a polynomial of any degree.
  pub poly_zero : (k : ℕ) → Polynomial K k (λ z. 𝟘)
  unfolding eval
  poly_zero k = record { coefficients = []; degree = omega arith; value = λ z. refl }

  -- One is a polynomial of any degree but below 0.
  pub poly_one : (k : ℕ) → 0 < k → Polynomial K k (λ z. 𝟙)
  unfolding eval
  poly_one k l = record { coefficients = 𝟙 ∷ []; degree = omega arith; value = λ z. simp (eval, ring) }

  -- Sums keep the degree.
  pub poly_add : {k : ℕ} {f g : F → F} → Polynomial K k f → Polynomial K k g → Polynomial K k (λ z. f z ⊕ g z)
  poly_add {k} P Q = record {
    coefficients = plus P.coefficients Q.coefficients;
    degree = length_plus k _ _ P.degree Q.degree;
    value = λ z. ap₂ ◌⊕◌ (P.value z) (Q.value z) ∙ sym (eval_plus P.coefficients Q.coefficients z);
  }

  -- Multiples keep the degree.
  pub poly_scale : {k : ℕ} {f : F → F} (a : F) → Polynomial K k f → Polynomial K k (λ z. a ⊗ f z)
  poly_scale a P = record {
    coefficients = map (λ c. a ⊗ c) P.coefficients;
    degree = omega (arith, length-map P.coefficients (λ c. a ⊗ c), P.degree);
    value = λ z. ap (λ x. a ⊗ x) (P.value z) ∙ sym (eval_scale a P.coefficients z);
  }

  -- A product with z + a has a degree higher by one.
  pub poly_linear : {k : ℕ} {f : F → F} (a : F) → Polynomial K k f → Polynomial K (suc k) (λ z. (z ⊕ a) ⊗ f z)
  poly_linear a P = record {
    coefficients = linear a 𝟘 P.coefficients;
    degree = omega (arith, length_linear a 𝟘 P.coefficients, P.degree);
    value = λ z. ap (λ x. (z ⊕ a) ⊗ x) (P.value z) ∙ sym (eval_linear a 𝟘 P.coefficients z ∙ zero-add K _);
  }

  -- Sums of many keep the degree.
  pub poly_sum : {k : ℕ} (n : ℕ) (f : ℕ → F → F)
      → ((i : ℕ) → i < n → Polynomial K k (f i)) → Polynomial K k (λ z. sum K n (λ i. f i z))
  unfolding sum
  poly_sum {k} zero f P = poly_zero k
  poly_sum (suc n) f P = poly_add (poly_sum n f (λ i l. P i (omega arith))) (P n (omega arith))

  -- Two polynomials of degree below k that agree at k distinct points agree everywhere.
  pub agree : (k : ℕ) (x : ℕ → F) → DistinctPoints K k x → {f g : F → F} → Polynomial K k f → Polynomial K k g
      → ((i : ℕ) → i < k → f (x i) ≡ g (x i)) → (z : F) → f z ≡ g z
  agree k x d {f} {g} P Q h z =
      eq_of_add K (f z) (g z) (S.value z ∙ roots k x d S.coefficients S.degree zero_at z)
    where
      S : Polynomial K k (λ z. f z ⊕ g z)
      S = poly_add P Q

      zero_at : Roots k x S.coefficients
      zero_at i l = sym (S.value (x i)) ∙ rw (h i l, add_self)
