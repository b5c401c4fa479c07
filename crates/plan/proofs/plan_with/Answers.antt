-- `plan::plan_with` meets its contract: each return is the answer of the tests that led there.
use mathlib.Core.Path.{◌≡◌, sym, ◌∙◌}
use native.Mathlib.Omega.{arith}
use Prim.Native.Nat.{◌<◌}
use lib.ListN.{length}
use Rattle.document.specs.Plan.{planned}
use Rattle.document.proofs.Price.{planned_price}
use Rattle.document.proofs.PlanBytes.{bytes_length}
use Rattle.plan.proofs.Answers.{node_refused, buffer_refused, done}
use Rattle.document.specs.Profile.{Accepted}
use Rattle.document.proofs.Fields.{fields, is_accepted}
use Rattle.plan.proofs.plan_with.Goals.{After-price-count}
use Rattle.plan.proofs.plan_with.Goals as goal

-- the number that was worked out is the plan's
module _ (c : After-price-count) where
  accepted : Accepted c.args.p
  accepted = is_accepted c.p.view_is c.p.invariant

  known : c.args.f.0 < c.args.p.n
  known = let below : c.args.f.0 < c.p.inside.n = omega (arith, c.if-f-p.false) in rw (fields c.p.view_is) at below

  count : c.price-count.result ≡ length (planned c.args.p c.args.f)
  count = c.price-count.ensures ∙ sym (planned_price _ accepted _ known)

pub returns-then-f-p : goal.returns-then-f-p
returns-then-f-p c = node_refused _ _ _ (rw (fields c.p.view_is) at c.if-f-p.true)

pub returns-then-places-count : goal.returns-then-places-count
returns-then-places-count c =
    buffer_refused _ _ _ (known (goal.at.returns-then-places-count c).After-price-count) (omega (arith, count (goal.at.returns-then-places-count c).After-price-count, c.if-places-count.true))

pub put_plan-requires : goal.put_plan-requires
put_plan-requires c = (
  known (goal.at.put_plan-requires c).After-price-count,
  rw bytes_length (omega (arith, count (goal.at.put_plan-requires c).After-price-count, c.if-places-count.false)),
)

pub returns : goal.returns
returns c =
    done _ _ _ (known (goal.at.returns c).After-price-count) (omega (arith, count (goal.at.returns c).After-price-count, c.if-places-count.false)) (count (goal.at.returns c).After-price-count)
    c.put_plan.ensures
