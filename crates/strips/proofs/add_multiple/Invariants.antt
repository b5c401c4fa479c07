-- `strips::add_multiple` meets its contract. The invariant: what is left to add, the bits of c from i on times the
-- doubled strip, makes of x what c times the strip was to make of it; and what is left of the strip is what was to be
-- left of it.
use mathlib.Core.Path.{◌≡◌}
use Prim.Native.Nat.{◌/◌, ◌^◌}
use Rattle.strips.specs.Strips.{added_scaled, doubled_strip, doubled_while}
use Rattle.strips.proofs.add_multiple.Given as goal

abbrev pub invariant-loop-i : goal.invariant-loop-i
invariant-loop-i l =
    (added_scaled (l.c / 2 ^ l.i) l.at (doubled_strip l.strip) l.x ≡ added_scaled l.c l.at l.fn.strip l.fn.x)
    × (doubled_while 8 (l.c / 2 ^ l.i) l.strip ≡ doubled_while 8 (l.c / 2) l.fn.strip)
