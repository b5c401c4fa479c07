-- `survey::go_on` meets its contract: a set before the last one steps to the next.
use mathlib.Core.Path.{ap, ◌∙◌}
use Prim.Native.Nat.{◌+◌, ◌<◌}
use native.Mathlib.Omega.{arith}
use lib.ListN.{length}
use Rattle.ksets.specs.Sets.{sets, next_of}
use Rattle.ksets.proofs.Following.{next_set, steps_at}
use Rattle.survey.proofs.go_on.Goals.{Start, Then-at-end}
use Rattle.survey.proofs.go_on.Goals as goal

-- where there is a next set to look at
module _ (c : Then-at-end) where
  more : c.args.at + 1 < sets c.args.n (length c.args.set.now)
  more = omega (arith, c.if-at-end.true, c.requires.n_le_max_nodes.1)

pub step-requires : goal.step-requires
step-requires c =
    rw c.requires.set_value (steps_at c.args.n _ c.args.at c.requires.n_le_max_nodes.0 (more (goal.at.step-requires c).Then-at-end))

pub returns-then-at-end : goal.returns-then-at-end
returns-then-at-end c =
    λ _. c.step.ensures ∙ ap (next_of c.args.n) c.requires.set_value
    ∙ next_set c.args.n _ c.args.at (more (goal.at.returns-then-at-end c).Then-at-end)

pub returns-else-at-end : goal.returns-else-at-end
returns-else-at-end c = λ h. absurd (omega (arith, c.if-at-end.false, h))
