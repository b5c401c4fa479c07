-- `strips::Plane::part` meets its contract.
use mathlib.Core.Path.{◌≡◌}
use native.Mathlib.Nat.{add-sub_cancel_left}
use lib.ListN.{get_or}
use Rattle.strips.proofs.Passes.{part_here, part_past}
use Rattle.strips.proofs.Plane.part.Goals as goal

pub returns-in-Some : goal.returns-in-Some
returns-in-Some c =
    let s = c.args.self.now in
    let found = c.in-Some.ensures.lookup in
    let e : c.in-Some.from.now ≡ get_or s.at.now c.args.j 0 = found.3.1 0 in
    rw (e, add-sub_cancel_left) (part_here s.at.now s.src.now c.args.j s.len found.3.0 (s.inside c.args.j found.3.0))

pub returns-in-None : goal.returns-in-None
returns-in-None c =
    let s = c.args.self.now in part_past s.at.now s.src.now c.args.j s.len 2048 s.short c.in-None.ensures.lookup.3
