-- `plan::in_step` meets its contract: the first of the two tests, as found, leaves the second.
use Rattle.plan.specs.Steps.{in_step}
use Rattle.document.specs.Plan.{is_own, is_diagonal, is_off_diagonal}
use Rattle.std.proofs.lemmas.Bool.{eq-eqb, ne_eqb}
use Rattle.document.proofs.Fields.{fields}
use Rattle.plan.proofs.in_step.Goals as goal

pub returns-then-group : goal.returns-then-group
unfolding in_step is_own
returns-then-group c = rw (fields c.p.view_is) (rw (c.in-Own.is, eq-eqb _ _ (rw (fields c.p.view_is) at c.if-group.true)))

pub returns-else-group : goal.returns-else-group
unfolding in_step is_own
returns-else-group c = rw (fields c.p.view_is) (rw (c.in-Own.is, ne_eqb _ _ (rw (fields c.p.view_is) at c.if-group.false)))

pub returns-then-not-group : goal.returns-then-not-group
unfolding in_step is_diagonal
returns-then-not-group c = rw (fields c.p.view_is) (rw (c.in-Diagonal.is, ne_eqb _ _ (rw (fields c.p.view_is) at c.if-not-group.true)))

pub returns-else-not-group : goal.returns-else-not-group
unfolding in_step is_diagonal
returns-else-not-group c = rw (fields c.p.view_is) (rw (c.in-Diagonal.is, eq-eqb _ _ (rw (fields c.p.view_is) at c.if-not-group.false)))

pub returns-then-not-group-2 : goal.returns-then-not-group-2
unfolding in_step is_off_diagonal
returns-then-not-group-2 c = rw (fields c.p.view_is) (rw (c.in-OffDiagonal.is, ne_eqb _ _ (rw (fields c.p.view_is) at c.if-not-group-2.true)))

pub returns-else-not-group-2 : goal.returns-else-not-group-2
unfolding in_step is_off_diagonal
returns-else-not-group-2 c = rw (fields c.p.view_is) (rw (c.in-OffDiagonal.is, eq-eqb _ _ (rw (fields c.p.view_is) at c.if-not-group-2.false)))
