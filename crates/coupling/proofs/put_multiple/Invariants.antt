-- `coupling::put_multiple` meets its contract. The invariant: the first b bytes are multiplied.
use lib.ListN.{get_or}
use Rattle.lists.proofs.Written.{Written}
use Rattle.gf256.specs.Field.{◌⊗◌}
use Rattle.coupling.proofs.put_multiple.Given as goal

abbrev pub invariant-loop-b : goal.invariant-loop-b
invariant-loop-b l = Written (λ b. l.d ⊗ get_or l.strip b 0) l.b l.initial.out l.out
