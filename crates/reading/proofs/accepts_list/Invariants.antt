-- `reading::accepts_list` meets its contract. The invariant: the list is accepted exactly if what is left of it is,
-- from the lowest number on that may come next.
use mathlib.Core.Path.{◌≡◌}
use Prim.Native.Nat.{◌-◌}
use lib.ListN.{drop}
use Rattle.document.specs.Reading.{list_accepted}
use Rattle.reading.proofs.accepts_list.Given as goal

abbrev pub invariant-loop-node : goal.invariant-loop-node
invariant-loop-node l =
    list_accepted l.n l.lowest (l.k - l.node-index) (drop l.node-index l.nodes) ≡ list_accepted l.n 0 l.k l.nodes
