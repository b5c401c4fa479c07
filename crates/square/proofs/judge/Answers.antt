-- `square::judge` meets its contract: as `square::invert` does.
use Rattle.std.proofs.Common.{rules, sym, ap, option_map, ◌∙◌}
use Rattle.std.specs.Result.{result_err}
use Rattle.square.specs.Steps.{unit_square}
use Rattle.square.specs.Elimination.{Eliminated}
use Rattle.square.specs.Clearing.{after_step}
use Rattle.square.proofs.Ends.{end_all, end_here, end_next}
use Rattle.square.proofs.judge.Goals as goal

pub loop-r-init : goal.loop-r-init
loop-r-init c = (unit_square 80, search rules)

pub returns-in_default : goal.returns-in_default
returns-in_default c =
    ap (λ (e : Eliminated). option_map (λ x. x.column) (result_err e))
    (sym (end_here _ _ _ _ c.loop-r-test.true c.in_default.ensures) ∙ c.loop-r.invariant.1)

pub loop-r-preserved : goal.loop-r-preserved
loop-r-preserved c = (
  after_step c.in-Some.step c.loop-r.invariant.0,
  rw c.apply-s.ensures (sym (end_next _ _ _ _ c.loop-r-test.true c.in-Some.ensures) ∙ c.loop-r.invariant.1),
)

pub returns : goal.returns
returns c =
    ap (λ (e : Eliminated). option_map (λ x. x.column) (result_err e))
    (sym (end_all _ _ _ _ c.loop-r-test.false) ∙ c.loop-r.invariant.1)
