-- `coupling::couple` meets its contract. The invariant: the pairs whose upper strip lies before z are coupled, all else
-- is as it was, and it was bytes.
use Prim.Native.Nat.{ℕ, ◌<◌}
use lib.ListN.{get_or}
use Rattle.coupling.specs.Pairs.{coupled_byte}
use Rattle.coupling.proofs.Pairs.{Mixed}
use Rattle.coupling.proofs.couple.Given as goal

abbrev pub invariant-loop-z : goal.invariant-loop-z
invariant-loop-z l =
    Mixed l.p (coupled_byte l.p) l.initial.x l.z l.x × ((e : ℕ) → get_or l.initial.x e 0 < 256)
