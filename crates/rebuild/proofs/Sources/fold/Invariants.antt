-- `rebuild::Sources::fold` meets its contract. The invariant: the strips of the nodes passed are folded, and m counts
-- their places.
use mathlib.Core.Path.{◌≡◌}
use Prim.Native.Nat.{◌*◌}
use lib.ListN.{length, take}
use Rattle.document.specs.Plan.{planned}
use Rattle.document.specs.Rebuild.{given_at}
use Rattle.plan.specs.Steps.{places_of}
use Rattle.rebuild.specs.Folded.{folded_of}
use Rattle.rebuild.proofs.Sources.fold.Given as goal

abbrev pub invariant-loop-i : goal.invariant-loop-i
invariant-loop-i l =
    (length l.out ≡ length l.nodes * l.self.p.s) × (l.m ≡ length (places_of l.self.p.a l.self.f (take l.i l.nodes)))
    × (take (l.i * l.self.p.s) l.out ≡ folded_of l.self.p l.self.f (given_at (planned l.self.p l.self.f) l.self.src.now l.self.first l.self.stride) (take l.i l.nodes))
