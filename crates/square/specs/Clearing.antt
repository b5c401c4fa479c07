-- The step that clears a column, as the code has it.
--
-- after_step m s    : s after the step m
-- StepOf s r rows m : m is the step that clears column r of s, in the lines below rows
use Rattle.std.specs.Prelude.{◌≡◌, List, ℕ, ◌<◌, get_or, Some}
use Rattle.square.specs.declared.Line.{Line}
use Rattle.square.specs.declared.Step.{Step}
use Rattle.square.specs.Steps.{stepped, lifted, multiplier_at, pivot_from}

abbrev pub after_step : Step → List Line → List Line
after_step m s = stepped (λ i. get_or m.c i 0) m.r (lifted m.r m.p s) m.rows

pub record StepOf (s : List Line) (r rows : ℕ) (m : Step) : Type 0 where
  pub line : m.r ≡ r
  pub size : m.rows ≡ rows
  pub pivot : pivot_from s r r rows ≡ Some m.p
  pub given : (i : ℕ) → i < rows → get_or m.c i 0 ≡ multiplier_at (lifted r m.p s) r r i
