-- `half_pairs::list_half_pairs` meets its contract. The invariant: the half pairs before z are written.
use Rattle.lists.specs.Listed.{rising}
use Rattle.lists.specs.Put.{Wrote}
use Rattle.half_pairs.specs.HalfPairs.{is_half_pair}
use Rattle.half_pairs.proofs.list_half_pairs.Given as goal

abbrev pub invariant-loop-z : goal.invariant-loop-z
invariant-loop-z l = Wrote l.initial.out 0 (rising l.z (is_half_pair l.p l.nodes)) l.next l.out
