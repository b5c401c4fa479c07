-- `strips::double_strip` meets its contract.
use lib.ListN.{get_or}
use Rattle.gf256.specs.Field.{double}
use Rattle.lists.proofs.Written.{Written}
use Rattle.strips.proofs.double_strip.Given as goal

abbrev pub invariant-loop-v : goal.invariant-loop-v
invariant-loop-v l = Written (λ b. double (get_or l.initial.strip b 0)) l.v-index l.initial.strip l.strip
