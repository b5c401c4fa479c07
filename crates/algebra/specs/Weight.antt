-- Lagrange's weights, and products with and without one factor.
--
-- weight K m x j z     : the weight at z of the point x j among the first m of the points x
-- product K m f        : f 0 ⊗ f 1 ⊗ .. ⊗ f (m-1), and 𝟙 where m is 0
-- product_but K m j f   : the same product without the factor f j
use Rattle.std.specs.Prelude.{ℕ, zero, suc}
use Rattle.std.proofs.Math.Decide.{ℕ_discrete}
use Rattle.algebra.specs.Field.{Field}
use Rattle.algebra.specs.Pick.{pick}

module _ (K : Field) where
  infixl 65 ◌⊕◌
  infixl 70 ◌⊗◌
  open K use {carrier as F, 𝟙, add as ◌⊕◌, mul as ◌⊗◌, inv}

  -- The product of (z ⊕ x i) / (x j ⊕ x i) over all i below m but j.
  unfoldable pub weight : ℕ → (ℕ → F) → ℕ → F → F
  weight zero x j z = 𝟙
  weight (suc m) x j z = pick (ℕ_discrete m j) (weight m x j z) (inv (x j ⊕ x m) ⊗ ((z ⊕ x m) ⊗ weight m x j z))

  -- The product of the first m values of f.
  unfoldable pub product : ℕ → (ℕ → F) → F
  product zero f = 𝟙
  product (suc m) f = product m f ⊗ f m

  -- The product of the first m values of f but the value at j.
  unfoldable pub product_but : ℕ → ℕ → (ℕ → F) → F
  product_but zero j f = 𝟙
  product_but (suc m) j f = pick (ℕ_discrete m j) (product_but m j f) (product_but m j f ⊗ f m)
