-- Lagrange's weights: each is 1 at its own point and 0 at the others, and a polynomial is the weighted sum of its
-- values.
use mathlib.Core.Path.{◌≡◌, refl, sym, ap, ap₂, ◌∙◌}
use mathlib.Core.Logic.{◌≢◌}
use Prim.Native.Nat.{ℕ, zero, suc, ◌≤◌, ◌<◌}
use native.Mathlib.Omega.{arith}
use native.Mathlib.Decide.{ℕ_discrete}
use Rattle.algebra.specs.Field.{Field}
use Rattle.algebra.specs.Pick.{pick}
use Rattle.algebra.specs.Sum.{sum}
use Rattle.algebra.specs.Polynomial.{Polynomial, DistinctPoints, Avoids}
use Rattle.algebra.specs.Weight.{weight, product, product_but}
use Rattle.algebra.proofs.Field.{
  ring,
  add_self,
  mul-zero,
  zero-mul,
  one-mul,
  mul-one,
  mul_comm,
  mul_assoc,
  add_ne_zero,
  mul_ne_zero,
  inv_ne_zero,
  inv_mul_left,
}
use Rattle.algebra.proofs.Sum.{sum_ext, sum_scale, sum_one}
use Rattle.algebra.proofs.Polynomial.{apart, poly_one, poly_scale, poly_linear, poly_sum, agree}

module _ (K : Field) where
  infixl 65 ◌⊕◌
  infixl 70 ◌⊗◌
  open K use {carrier as F, 𝟘, 𝟙, add as ◌⊕◌, mul as ◌⊗◌, inv}

  module _ (x : ℕ → F) (j : ℕ) where
    -- The weight among one point more, by the decision whether that point is the point j.
    abbrev next : (m : ℕ) → Dec (m ≡ j) → F → F
    next m d z = pick d (weight K m x j z) (inv (x j ⊕ x m) ⊗ ((z ⊕ x m) ⊗ weight K m x j z))

    -- Before the point j comes, the weight among m points has a factor for each.
    weight_before : (m : ℕ) → m ≤ j → Polynomial K (suc m) (weight K m x j)
    unfolding weight
    weight_before zero l = poly_one K 1 (omega arith)
    weight_before (suc m) l = go (ℕ_discrete m j) (weight_before m (omega arith))
      where
        go : (d : Dec (m ≡ j)) → Polynomial K (suc m) (weight K m x j) → Polynomial K (suc (suc m)) (next m d)
        go (yes e) P = absurd (omega arith)
        go (no n) P = poly_scale K (inv (x j ⊕ x m)) (poly_linear K (x m) P)

    -- A weight among m points is a polynomial of degree below m.
    pub weight_poly : (m : ℕ) → j < m → Polynomial K m (weight K m x j)
    unfolding weight
    weight_poly zero l = absurd (omega arith)
    weight_poly (suc m) l = go (ℕ_discrete m j) (weight_poly m)
      where
        go : (d : Dec (m ≡ j)) → (j < m → Polynomial K m (weight K m x j)) → Polynomial K (suc m) (next m d)
        go (yes e) P = weight_before m (omega arith)
        go (no n) P = poly_scale K (inv (x j ⊕ x m)) (poly_linear K (x m) (P (omega arith)))

    -- A weight is 1 at its own point.
    pub weight_at_lem : (m : ℕ) → Avoids K m x j (x j) → weight K m x j (x j) ≡ 𝟙
    unfolding weight
    weight_at_lem zero a = refl
    weight_at_lem (suc m) a = go (ℕ_discrete m j) (weight_at_lem m (λ i l. a i (omega arith)))
      where
        go : (d : Dec (m ≡ j)) → weight K m x j (x j) ≡ 𝟙 → next m d (x j) ≡ 𝟙
        go (yes e) h = h
        go (no n) h =
            inv_mul_left K (x j ⊕ x m) (weight K m x j (x j)) (add_ne_zero K (x j) (x m) (a m (omega arith) n)) ∙ h

    -- A weight is 0 at the other points.
    pub weight_off : (m i : ℕ) → i < m → i ≢ j → weight K m x j (x i) ≡ 𝟘
    unfolding weight
    weight_off zero i l n = absurd (omega arith)
    weight_off (suc m) i l n = go (ℕ_discrete m j) (ℕ_discrete i m) (λ l. weight_off m i l n)
      where
        go : (d : Dec (m ≡ j)) → Dec (i ≡ m) → (i < m → weight K m x j (x i) ≡ 𝟘) → next m d (x i) ≡ 𝟘
        go (yes e) q h = h (omega arith)
        go (no e) (yes q) h = rw (q, add_self, zero-mul, mul-zero)
        go (no e) (no q) h = rw (h (omega arith), mul-zero, mul-zero)

    -- A weight is not 0 away from the other points.
    pub weight_ne : (z : F) (m : ℕ) → Avoids K m x j (x j) → Avoids K m x j z → weight K m x j z ≢ 𝟘
    unfolding weight
    weight_ne z zero a b = K.one_ne_zero
    weight_ne z (suc m) a b = go (ℕ_discrete m j) (weight_ne z m (λ i l. a i (omega arith)) (λ i l. b i (omega arith)))
      where
        go : (d : Dec (m ≡ j)) → weight K m x j z ≢ 𝟘 → next m d z ≢ 𝟘
        go (yes e) h = h
        go (no n) h =
            mul_ne_zero K (inv (x j ⊕ x m)) ((z ⊕ x m) ⊗ weight K m x j z)
            (inv_ne_zero K (x j ⊕ x m) (add_ne_zero K (x j) (x m) (a m (omega arith) n)))
            (mul_ne_zero K (z ⊕ x m) (weight K m x j z) (add_ne_zero K z (x m) (b m (omega arith) n)) h)

    -- The step of `weight_product`.
    regroup : (i d z w p : F) → i ⊗ (z ⊗ w) ⊗ (p ⊗ d) ≡ i ⊗ (d ⊗ (w ⊗ p ⊗ z))
    regroup i d z w p = simp ring

    -- A weight as a quotient of two products, with no inverse but one.
    pub weight_product : (z : F) (m : ℕ) → Avoids K m x j (x j)
        → weight K m x j z ⊗ product_but K m j (λ i. x j ⊕ x i) ≡ product_but K m j (λ i. z ⊕ x i)
    unfolding weight product_but
    weight_product z zero a = mul-one K 𝟙
    weight_product z (suc m) a = go (ℕ_discrete m j) (weight_product z m (λ i l. a i (omega arith)))
      where
        below : F
        below = product_but K m j (λ i. x j ⊕ x i)

        above : F
        above = product_but K m j (λ i. z ⊕ x i)

        go : (d : Dec (m ≡ j)) → weight K m x j z ⊗ below ≡ above
            → next m d z ⊗ pick d below (below ⊗ (x j ⊕ x m)) ≡ pick d above (above ⊗ (z ⊕ x m))
        go (yes e) h = h
        go (no n) h =
            regroup (inv (x j ⊕ x m)) (x j ⊕ x m) (z ⊕ x m) (weight K m x j z) below
            ∙ inv_mul_left K (x j ⊕ x m) _ (add_ne_zero K (x j) (x m) (a m (omega arith) n))
            ∙ ap (λ p. p ⊗ (z ⊕ x m)) h

  -- A product whose factors do not reach j is whole.
  product_before : (m j : ℕ) (f : ℕ → F) → m ≤ j → product_but K m j f ≡ product K m f
  unfolding product product_but
  product_before zero j f l = refl
  product_before (suc m) j f l = go (ℕ_discrete m j) (product_before m j f (omega arith))
    where
      go : (d : Dec (m ≡ j)) → product_but K m j f ≡ product K m f
          → pick d (product_but K m j f) (product_but K m j f ⊗ f m) ≡ product K m f ⊗ f m
      go (yes e) h = absurd (omega arith)
      go (no n) h = ap (λ p. p ⊗ f m) h

  -- A product is any one of its factors times the others.
  pub product_split : (m j : ℕ) (f : ℕ → F) → j < m → product K m f ≡ f j ⊗ product_but K m j f
  unfolding product product_but
  product_split zero j f l = absurd (omega arith)
  product_split (suc m) j f l = go (ℕ_discrete m j) (product_split m j f)
    where
      go : (d : Dec (m ≡ j)) → (j < m → product K m f ≡ f j ⊗ product_but K m j f)
          → product K m f ⊗ f m ≡ f j ⊗ pick d (product_but K m j f) (product_but K m j f ⊗ f m)
      go (yes e) h = ap₂ (λ p i. p ⊗ f i) (sym (product_before m j f (omega arith))) e ∙ mul_comm K _ (f j)
      go (no n) h = ap (λ p. p ⊗ f m) (h (omega arith)) ∙ mul_assoc K (f j) (product_but K m j f) (f m)

  -- A polynomial of degree below k is the sum of its values at k distinct points, each times its weight.
  pub lagrange : (k : ℕ) (x : ℕ → F) → DistinctPoints K k x → {f : F → F} → Polynomial K k f
      → (z : F) → f z ≡ sum K k (λ j. f (x j) ⊗ weight K k x j z)
  lagrange k x d {f} P = agree K k x d P (poly_sum K k term term_poly) at
    where
      term : ℕ → F → F
      term j z = f (x j) ⊗ weight K k x j z

      term_poly : (j : ℕ) → j < k → Polynomial K k (term j)
      term_poly j l = poly_scale K (f (x j)) (weight_poly x j k l)

      own : (i : ℕ) → i < k → term i (x i) ≡ f (x i)
      own i l = ap (λ w. f (x i) ⊗ w) (weight_at_lem x i k (apart K k x d i l)) ∙ mul-one K (f (x i))

      other : (i j : ℕ) → i < k → j ≢ i → term j (x i) ≡ 𝟘
      other i j l n = ap (λ w. f (x j) ⊗ w) (weight_off x j k i l (λ e. n (sym e))) ∙ mul-zero K (f (x j))

      at : (i : ℕ) → i < k → f (x i) ≡ sum K k (λ j. term j (x i))
      at i l = sym (sum_one K k i (λ j. term j (x i)) l (λ j h. other i j l) ∙ own i l)

  -- A product without one factor, with one factor more: 1 in place of the one that is left out.
  pub product_next : (m j : ℕ) (f : ℕ → F)
      → product_but K (suc m) j f ≡ product_but K m j f ⊗ pick (ℕ_discrete j m) 𝟙 (f m)
  unfolding product_but
  product_next m j f = go (ℕ_discrete m j) (ℕ_discrete j m)
    where
      go : (d : Dec (m ≡ j)) (e : Dec (j ≡ m)) → {p : F} → pick d p (p ⊗ f m) ≡ p ⊗ pick e 𝟙 (f m)
      go (yes d) (yes e) = sym (mul-one K _)
      go (yes d) (no e) = absurd (e (sym d))
      go (no d) (yes e) = absurd (d (sym e))
      go (no d) (no e) = refl

  -- A product without one factor is not 0 where no other factor is.
  pub product_ne_zero : (m j : ℕ) (f : ℕ → F) → ((i : ℕ) → i < m → i ≢ j → f i ≢ 𝟘) → product_but K m j f ≢ 𝟘
  unfolding product_but
  product_ne_zero zero j f a = K.one_ne_zero
  product_ne_zero (suc m) j f a = go (ℕ_discrete m j) (product_ne_zero m j f (λ i l. a i (omega arith)))
    where
      go : (d : Dec (m ≡ j)) → product_but K m j f ≢ 𝟘 → pick d (product_but K m j f) (product_but K m j f ⊗ f m) ≢ 𝟘
      go (yes e) h = h
      go (no n) h = mul_ne_zero K (product_but K m j f) (f m) h (a m (omega arith) n)

  -- A factor and its inverse cancel.
  cancel : (a b : F) → a ≢ 𝟘 → a ⊗ b ⊗ inv a ≡ b
  cancel a b n = mul_comm K (a ⊗ b) (inv a) ∙ inv_mul_left K a b n

  -- A weight in barycentric form: the product of all differences, divided by the point's own times the denominator.
  weight_quotient : (m : ℕ) (x : ℕ → F) (j : ℕ) (z : F) → j < m → Avoids K m x j (x j) → z ≢ x j
      → product K m (λ i. z ⊕ x i) ⊗ inv ((z ⊕ x j) ⊗ product_but K m j (λ i. x j ⊕ x i)) ≡ weight K m x j z
  weight_quotient m x j z l a o =
      ap (λ p. p ⊗ inv (own ⊗ below))
      (product_split m j (λ i. z ⊕ x i) l
      ∙ ap (λ p. own ⊗ p) (sym (weight_product x j z m a) ∙ mul_comm K (weight K m x j z) below)
      ∙ sym (mul_assoc K own below (weight K m x j z)))
      ∙ cancel (own ⊗ below) (weight K m x j z)
      (mul_ne_zero K own below (add_ne_zero K z (x j) o)
      (product_ne_zero m j (λ i. x j ⊕ x i) (λ i h n. add_ne_zero K (x j) (x i) (a i h n))))
    where
      own : F
      own = z ⊕ x j

      below : F
      below = product_but K m j (λ i. x j ⊕ x i)

  -- The weights from inverses alone: they add up to 1, so that the sum of the inverses of the divisors is the inverse of
  -- the product of all differences.
  module _ (m : ℕ) (x : ℕ → F) (z : F) (some : 0 < m) (d : DistinctPoints K m x) (o : (i : ℕ) → i < m → z ≢ x i) where
    abbrev inverses : ℕ → F
    inverses j = inv ((z ⊕ x j) ⊗ product_but K m j (λ i. x j ⊕ x i))

    abbrev all : F
    all = product K m (λ i. z ⊕ x i)

    quotient : (j : ℕ) → j < m → all ⊗ inverses j ≡ weight K m x j z
    quotient j l = weight_quotient m x j z l (apart K m x d j l) (o j l)

    product_sum : all ⊗ sum K m inverses ≡ 𝟙
    product_sum =
        sym (sum_scale K m all inverses)
        ∙ sum_ext K m (λ j l. quotient j l ∙ sym (one-mul K (weight K m x j z)))
        ∙ sym (lagrange m x d (poly_one K m some) z)

    pub sum_ne_zero : sum K m inverses ≢ 𝟘
    sum_ne_zero e = K.one_ne_zero (sym product_sum ∙ ap (λ s. all ⊗ s) e ∙ mul-zero K all)

    pub weight_share : (j : ℕ) → j < m → inv (sum K m inverses) ⊗ inverses j ≡ weight K m x j z
    weight_share j l =
        ap (λ p. p ⊗ inverses j)
        (sym (mul-one K (inv (sum K m inverses)))
        ∙ ap (λ p. inv (sum K m inverses) ⊗ p) (sym product_sum ∙ mul_comm K all (sum K m inverses))
        ∙ inv_mul_left K (sum K m inverses) all sum_ne_zero)
        ∙ quotient j l

  -- A weight depends on its own point and the first m points alone.
  weight_same : (m : ℕ) (x y : ℕ → F) (j : ℕ) (z : F) → x j ≡ y j → ((i : ℕ) → i < m → x i ≡ y i)
      → weight K m x j z ≡ weight K m y j z
  unfolding weight
  weight_same zero x y j z o e = refl
  weight_same (suc m) x y j z o e =
      go (ℕ_discrete m j) (e m (omega arith)) (weight_same m x y j z o (λ i l. e i (omega arith)))
    where
      go : (d : Dec (m ≡ j)) → x m ≡ y m → {v w : F} → v ≡ w
          → pick d v (inv (x j ⊕ x m) ⊗ ((z ⊕ x m) ⊗ v)) ≡ pick d w (inv (y j ⊕ y m) ⊗ ((z ⊕ y m) ⊗ w))
      go (yes e) p h = h
      go (no n) p h = rw (o, p, h)

  -- A weight among m points depends on these alone.
  pub weight_ext : (m : ℕ) (x y : ℕ → F) (j : ℕ) (z : F) → ((i : ℕ) → i < m → x i ≡ y i) → j < m
      → weight K m x j z ≡ weight K m y j z
  weight_ext m x y j z e l = weight_same m x y j z (e j l) e
