-- Where a number stands in a list.
--
-- position_in xs v : where v stands in xs, from 0; the length of xs if it does not
use Rattle.std.specs.Prelude.{List, ℕ, ◌==◌}
use Rattle.std.specs.List.{position_or_len}

unfoldable pub position_in : List ℕ → ℕ → ℕ
position_in xs v = position_or_len (λ x. x == v) xs
