-- `half_pairs::positions` meets its contract. The invariant: the first q nodes have their positions.
use mathlib.Core.Path.{◌≡◌}
use Rattle.lists.specs.Listed.{listed}
use Rattle.half_pairs.proofs.Named.{placed}
use Rattle.half_pairs.proofs.positions.Given as goal

abbrev pub invariant-loop-q : goal.invariant-loop-q
invariant-loop-q l = l.table ≡ listed 24 (placed l.fn.p.k l.nodes l.q)
