-- `square::invert` meets its contract: one column after the other.
use Rattle.std.proofs.Common.{sym, ◌∙◌}
use Rattle.square.proofs.Ends.{end_all, end_here, end_next}
use Rattle.square.proofs.invert.Goals as goal

pub returns-in_default : goal.returns-in_default
returns-in_default c =
    sym (end_here _ _ _ _ c.loop-r-test.true c.in_default.ensures) ∙ c.loop-r.invariant ∙ rw c.unit_square-t.ensures

pub loop-r-preserved : goal.loop-r-preserved
loop-r-preserved c =
    rw (c.apply-s.ensures, c.apply-right.ensures)
    (sym (end_next _ _ _ _ c.loop-r-test.true c.in-Some.ensures) ∙ c.loop-r.invariant)

pub returns : goal.returns
returns c = sym (end_all _ _ _ _ c.loop-r-test.false) ∙ c.loop-r.invariant ∙ rw c.unit_square-t.ensures
