-- `square::invert` meets its contract. The loop's invariant: the elimination that is left, on the square and right half
-- reached, ends as the whole one does.
use Rattle.std.proofs.Common.{◌≡◌, ◌-◌}
use Rattle.square.specs.Elimination.{end_from, eliminated}
use Rattle.square.proofs.invert.Given as goal

abbrev pub invariant-loop-r : goal.invariant-loop-r
invariant-loop-r l =
    end_from l.rows (l.columns - l.r) l.r l.s l.t ≡ eliminated l.rows l.columns l.initial.s l.initial.t
