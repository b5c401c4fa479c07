-- The row code: the values at n points of a polynomial of degree below k.
--
-- Choice m n s           : s 0 .. s (m-1) are m different numbers below n
-- Codeword K n point k a : a 0 .. a (n-1) are the values at the points 0 .. n-1 of one polynomial of degree below k
use Rattle.std.specs.Prelude.{◌≡◌, ◌≢◌, ℕ, ◌<◌}
use Rattle.algebra.specs.Field.{Field}
use Rattle.algebra.specs.Polynomial.{Polynomial}

-- A choice of m different numbers below n.
pub record Choice (m n : ℕ) (s : ℕ → ℕ) : Type 0 where
  pub below : (i : ℕ) → i < m → s i < n
  pub apart : (i j : ℕ) → i < j → j < m → s i ≢ s j

module _ (K : Field) (n : ℕ) (point : ℕ → K.carrier) where
  open K use {carrier as F}

  -- One row of base symbols: 'the list of values, at the points 0..n-1, of a polynomial of degree below k'.
  pub record Codeword (k : ℕ) (a : ℕ → F) : Type 0 where
    pub polynomial : F → F
    pub poly : Polynomial K k polynomial
    pub at : (j : ℕ) → j < n → a j ≡ polynomial (point j)
