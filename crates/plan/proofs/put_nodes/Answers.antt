-- `plan::put_nodes` meets its contract. The invariant: the places of the nodes passed are written.
use mathlib.Core.Path.{ap}
use mathlib.Core.List.{List}
use Prim.Native.Nat.{ℕ, zero-le}
use native.Mathlib.Omega.{arith}
use lib.Seq.{take_all}
use Rattle.lists.proofs.Put.{wrote_none, wrote_then, wrote_same}
use Rattle.document.specs.Plan.{plan_bytes}
use Rattle.plan.specs.Steps.{places_of}
use Rattle.plan.proofs.Places.{next_node, next_fits}
use Rattle.plan.proofs.put_nodes.Goals as goal

pub loop-node-init : goal.loop-node-init
unfolding places_of plan_bytes
loop-node-init c = wrote_none _ _

pub put_node-at-requires : goal.put_node-at-requires
put_node-at-requires c =
    let l = c.loop-node in
    let h = c.loop-node-test.true in
    rw c.from.ensures (
      c.requires.0 l.node-index h,
      omega (
        arith,
        next_fits c.args.p.a c.args.f c.args.nodes.now l.node-index h,
        l.invariant.ends,
        l.auto.out,
        c.requires.1,
      ),
    )

pub loop-node-preserved : goal.loop-node-preserved
loop-node-preserved c =
    let l = c.loop-node in
    wrote_same (next_node c.args.p.a c.args.f c.args.nodes.now l.node-index c.loop-node-test.true)
    (wrote_then zero-le l.invariant (rw c.from.ensures at c.put_node-at.ensures))

pub returns : goal.returns
returns c =
    let l = c.loop-node in
    wrote_same
    (ap (λ (js : List ℕ). plan_bytes (places_of c.args.p.a c.args.f js))
    (take_all l.node-index c.args.nodes.now (omega arith)))
    l.invariant
