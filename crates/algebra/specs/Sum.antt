-- sum K n f : f 0 ⊕ f 1 ⊕ .. ⊕ f (n-1), and 𝟘 where n is 0
use Rattle.std.specs.Prelude.{ℕ, zero, suc}
use Rattle.algebra.specs.Field.{Field}

module _ (K : Field) where
  infixl 65 ◌⊕◌
  open K use {carrier as F, 𝟘, add as ◌⊕◌}

  -- The sum of the first n values of f.
  unfoldable pub sum : ℕ → (ℕ → F) → F
  sum zero f = 𝟘
  sum (suc n) f = sum n f ⊕ f n
