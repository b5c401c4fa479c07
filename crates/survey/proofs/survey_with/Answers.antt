-- `survey::survey_with` meets its contract: each return is the answer of the tests that led there.
use mathlib.Core.Path.{◌∙◌}
use Prim.Native.Nat.{◌≤◌}
use native.Mathlib.Omega.{arith}
use Rattle.ksets.specs.Sets.{sets}
use Rattle.document.proofs.Fields.{fields}
use Rattle.survey.proofs.Answers.{start_refused, set_refused, answered}
use Rattle.survey.proofs.survey_with.Goals.{Else-total-start}
use Rattle.survey.proofs.survey_with.Goals as goal

-- the start is a position, or that after the last
module _ (c : Else-total-start) where
  at_most : c.args.start ≤ sets c.args.p.n c.args.p.k
  at_most = omega (arith, c.if-total-start.false, rw (fields c.p.view_is) at c.count-total.ensures)

pub count-total-requires : goal.count-total-requires
count-total-requires c = c.p.invariant.shape.few_nodes

pub returns-then-total-start : goal.returns-then-total-start
returns-then-total-start c =
    let e = rw (fields c.p.view_is) at c.count-total.ensures in
    start_refused _ _ _ _ (omega (arith, c.if-total-start.true, e))

pub returns-then-set-p : goal.returns-then-set-p
returns-then-set-p c =
    set_refused _ _ _ _ (at_most (goal.at.returns-then-set-p c).Else-total-start)
    (rw (fields c.p.view_is) at c.if-set-p.true)

pub survey_from-requires : goal.survey_from-requires
survey_from-requires c =
    let e = rw (fields c.p.view_is) at c.count-total.ensures in
    (e, c.if-total-start.false, rw (fields c.p.view_is) at c.if-set-p.false)

pub returns : goal.returns
returns c =
    c.survey_from.ensures
    ∙ answered _ _ _ _ (at_most (goal.at.returns c).Else-total-start) (rw (fields c.p.view_is) at c.if-set-p.false)
