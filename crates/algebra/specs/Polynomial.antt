-- Polynomials as lists of coefficients, constant term first.
--
-- eval K p z       : the value of the polynomial p at z
-- Polynomial K k f : the function f is a polynomial of degree below k
-- DistinctPoints K k x   : the first k of the points x are all different
-- Avoids K m x j z : z is none of the first m of the points x, but may be the point x j
use Rattle.std.specs.Prelude.{◌≡◌, ◌≢◌, List, [], ◌∷◌, ℕ, ◌≤◌, ◌<◌, length}
use Rattle.algebra.specs.Field.{Field}

module _ (K : Field) where
  infixl 65 ◌⊕◌
  infixl 70 ◌⊗◌
  open K use {carrier as F, 𝟘, add as ◌⊕◌, mul as ◌⊗◌}

  -- The value of a polynomial at z, by Horner's rule.
  unfoldable pub eval : List F → F → F
  eval [] z = 𝟘
  eval (c ∷ p) z = c ⊕ z ⊗ eval p z

  -- A function that is a polynomial of degree below k: it has at most k coefficients.
  pub record Polynomial (k : ℕ) (f : F → F) : Type 0 where
    pub coefficients : List F
    pub degree : length coefficients ≤ k
    pub value : (z : F) → f z ≡ eval coefficients z

  -- No two of the first k points are equal.
  abbrev pub DistinctPoints : ℕ → (ℕ → F) → Type 0
  DistinctPoints k x = (i j : ℕ) → i < j → j < k → x i ≢ x j

  -- z differs from each of the first m points other than the point j.
  abbrev pub Avoids : ℕ → (ℕ → F) → ℕ → F → Type 0
  Avoids m x j z = (i : ℕ) → i < m → i ≢ j → z ≢ x i
