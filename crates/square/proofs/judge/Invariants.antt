-- `square::judge` meets its contract. The loop keeps no right half, so the invariant says of some right half what that
-- of `invert` says of the one it keeps.
use Rattle.std.proofs.Common.{◌≡◌, ◌-◌, List}
use Rattle.square.specs.declared.Line.{Line}
use Rattle.square.specs.Steps.{unit_square}
use Rattle.square.specs.Elimination.{end_from, eliminated}
use Rattle.square.proofs.judge.Given as goal

abbrev pub invariant-loop-r : goal.invariant-loop-r
invariant-loop-r l =
    (t : List Line)
    × (end_from l.rows (l.columns - l.r) l.r l.s t ≡ eliminated l.rows l.columns l.initial.s (unit_square 80))
