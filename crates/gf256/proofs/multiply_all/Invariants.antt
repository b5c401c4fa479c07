-- `gf256::multiply_all` meets its contract. The invariant: the first i entries are the first i products, and the others
-- are as they were.
use lib.ListN.{get_or}
use Rattle.lists.proofs.Written.{Written}
use Rattle.gf256.specs.Field.{◌⊗◌}
use Rattle.gf256.proofs.multiply_all.Given as goal

abbrev pub invariant-loop-i : goal.invariant-loop-i
invariant-loop-i l = Written (λ j. get_or l.initial.xs j 0 ⊗ get_or l.ys j 0) l.i l.initial.xs l.xs
