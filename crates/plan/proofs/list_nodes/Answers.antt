-- `plan::list_nodes` meets its contract: the nodes that the three steps list are the plan's.
use mathlib.Core.Path.{◌≡◌}
use Prim.Native.Nat.{ℕ, ◌+◌, ◌-◌, ◌≤◌, zero-le}
use native.Mathlib.Omega.{arith}
use lib.ListN.{take}
use Rattle.lists.specs.Listed.{around}
use Rattle.lists.specs.Put.{Wrote}
use Rattle.document.specs.Profile.{Accepted}
use Rattle.document.proofs.Fields.{fields, is_accepted}
use Rattle.document.proofs.Walks.{walk_start_lem}
use Rattle.plan.specs.declared.Step.TheVariants.{Own}
use Rattle.plan.specs.Steps.{in_step}
use Rattle.plan.proofs.Walked.{step_ends, nodes_written}
use Rattle.plan.proofs.list_nodes.Goals.{After-list_step-own, After-walk_start-start}
use Rattle.plan.proofs.list_nodes.Goals as goal

-- the nodes of step 1
module _ (c : After-list_step-own) where
  accepted : Accepted c.args.p
  accepted = is_accepted c.p.view_is c.p.invariant

  own : Wrote c.args.out.now 0 (take (c.args.p.a - 1 - 0) (around c.args.p.n 0 (in_step Own c.args.p.a c.args.f)))
      c.list_step-own.result c.list_step-own.new.out
  own = rw (fields c.p.view_is) at c.list_step-own.ensures

  -- these, and k more, are fewer than n
  room : c.list_step-own.result + c.args.p.k ≤ 24
  room =
      let most : c.list_step-own.result ≤ c.args.p.a - 1 = step_ends (c.args.p.a - 1) _ zero-le own in
      omega (arith, accepted.shape)

-- where steps 2 and 3 begin
begins : (c : After-walk_start-start)
    → c.walk_start-start.result ≤ c.args.p.n
begins c =
    rw c.walk_start-start.ensures (walk_start_lem c.args.p c.args.f c.requires.0)

pub list_step-diagonal-requires : goal.list_step-diagonal-requires
list_step-diagonal-requires c =
    let at = (goal.at.list_step-diagonal-requires c).After-list_step-own in
    rw (fields c.p-2.view_is) (
      begins (goal.at.list_step-diagonal-requires c).After-walk_start-start,
      omega arith,
      omega (arith, room at, c.list_step-own.auto.out, c.requires.1),
    )

pub list_step-requires : goal.list_step-requires
list_step-requires c =
    let at = (goal.at.list_step-requires c).After-list_step-own in
    rw (fields c.p-2.view_is) (
      begins (goal.at.list_step-requires c).After-walk_start-start,
      step_ends _ _ (omega arith) (rw (fields c.p-2.view_is) at c.list_step-diagonal.ensures),
      omega (arith, room at, c.list_step-diagonal.auto.out, c.list_step-own.auto.out, c.requires.1),
    )

pub returns : goal.returns
unfolding in_step
returns c =
    let at = (goal.at.returns c).After-list_step-own in
    nodes_written c.args.p (accepted at) c.args.f c.requires.0 c.walk_start-start.ensures (own at)
    (rw (fields c.p-2.view_is) at c.list_step-diagonal.ensures) (rw (fields c.p-2.view_is) at c.list_step.ensures)
