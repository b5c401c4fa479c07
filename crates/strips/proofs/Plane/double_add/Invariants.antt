-- `strips::Plane::double_add` meets its contract. The invariant: dst is doubled, with the first j sources added.
use mathlib.Core.Path.{◌≡◌}
use lib.ListN.{take}
use Rattle.gf256.specs.Field.{double}
use Rattle.strips.specs.Planes.{added_with}
use Rattle.strips.proofs.Plane.double_add.Given as goal

abbrev pub invariant-loop-j : goal.invariant-loop-j
invariant-loop-j l = l.dst ≡ added_with double (take l.j l.self.at.now) l.self.src.now l.fn.dst
