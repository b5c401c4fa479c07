-- `gf256::invert_all` meets its contract. The invariant: the first entries are the first inverses, and the others are
-- as they were.
use lib.ListN.{get_or}
use Rattle.lists.proofs.Written.{Written}
use Rattle.gf256.specs.Field.{inverse}
use Rattle.gf256.proofs.invert_all.Given as goal

abbrev pub invariant-loop-x : goal.invariant-loop-x
invariant-loop-x l = Written (λ j. inverse (get_or l.initial.xs j 0)) l.x-index l.initial.xs l.xs
