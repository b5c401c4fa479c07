-- `rebuild::pair_determinants` meets its contract. The invariant: the first q entries are the first q determinants.
use Prim.Native.Nat.{◌%◌}
use lib.ListN.{get_or}
use Rattle.lists.proofs.Written.{Written}
use Rattle.algebra.specs.Coupling.{pair}
use Rattle.document.specs.ByteField.{bytes, number}
use Rattle.document.specs.Encoding.{factor_at}
use Rattle.rebuild.proofs.pair_determinants.Given as goal

abbrev pub invariant-loop-q : goal.invariant-loop-q
invariant-loop-q l =
    Written (λ m. number (pair bytes (factor_at l.p) l.c (get_or l.nodes m 0 % l.a))) l.q l.initial.out l.out
