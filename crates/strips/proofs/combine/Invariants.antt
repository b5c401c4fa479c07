-- `strips::combine` meets its contract. The invariant: dst is the combination with the weights' bits from i on.
use mathlib.Core.Path.{◌≡◌}
use lib.ListN.{length}
use Rattle.strips.specs.Strips.{combination_of}
use Rattle.strips.specs.Planes.{shifted_by}
use Rattle.strips.proofs.combine.Given as goal

abbrev pub invariant-loop-i : goal.invariant-loop-i
invariant-loop-i l =
    l.dst ≡ combination_of (shifted_by l.i l.weights) l.src l.first l.stride (length l.fn.dst)
