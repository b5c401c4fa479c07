-- `strips::gather` meets its contract. The invariant: the offsets of the sources passed are gathered.
use mathlib.Core.Path.{◌≡◌}
use Prim.Native.Nat.{◌≤◌}
use lib.ListN.{take}
use Rattle.strips.specs.Planes.{bits_at, offsets_of}
use Rattle.strips.proofs.gather.Given as goal

abbrev pub invariant-loop-q : goal.invariant-loop-q
invariant-loop-q l =
    (l.count ≤ l.q) × (take l.count l.room ≡ offsets_of (bits_at l.i (take l.q l.weights)) l.first l.stride)
