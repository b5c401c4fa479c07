-- Lists written into a list that is lent, and parts of a list compared.
--
-- slice x at m         : the m entries of x from `at` on
-- same xs ys           : xs and ys are equal
-- put d at vs          : d with vs written from `at` on
-- Wrote d at vs next e : a function that was lent d and a position left e and the next position: it wrote vs
use Rattle.std.specs.Prelude.{◌≡◌, Bool, List, ◌++◌, ℕ, ◌+◌, length, take, drop}
use Rattle.std.specs.Str.{bytes_eq}

unfoldable pub slice : List ℕ → ℕ → ℕ → List ℕ
slice x at m = take m (drop at x)

unfoldable pub same : List ℕ → List ℕ → Bool
same = bytes_eq

unfoldable pub put : List ℕ → ℕ → List ℕ → List ℕ
put d at vs = take at d ++ (vs ++ drop (at + length vs) d)

pub record Wrote (d : List ℕ) (at : ℕ) (vs : List ℕ) (next : ℕ) (e : List ℕ) : Type 0 where
  pub ends : next ≡ at + length vs
  pub holds : e ≡ put d at vs
