-- `plan::put_nodes` meets its contract. The invariant: the places of the nodes passed are written.
use lib.ListN.{take}
use Rattle.lists.specs.Put.{Wrote}
use Rattle.document.specs.Plan.{plan_bytes}
use Rattle.plan.specs.Steps.{places_of}
use Rattle.plan.proofs.put_nodes.Given as goal

abbrev pub invariant-loop-node : goal.invariant-loop-node
invariant-loop-node l =
    Wrote l.initial.out 0 (plan_bytes (places_of l.p.a l.f (take l.node-index l.nodes))) l.at l.out
