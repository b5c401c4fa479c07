-- `strips::Plane::pass` meets its contract.
use mathlib.Core.Path.{◌≡◌}
use Prim.Native.Nat.{ℕ, ◌+◌}
use lib.ListN.{length}
use Rattle.strips.specs.Planes.{part_of}
use Rattle.strips.proofs.Passes.{part_length, added_pass}
use Rattle.strips.proofs.Plane.pass.Goals as goal

pub add_four-requires-clause-alike : goal.add_four-requires-clause-alike
add_four-requires-clause-alike g c =
    let s = c.args.self.now in
    let j = c.args.j in
    let size : (j : ℕ) → length (part_of s.at.now s.src.now j s.len) ≡ s.len = λ j. part_length _ _ j _ in
    record { same0 = cc (size j); same1 = cc (size (j + 1)); same2 = cc (size (j + 2)); same3 = cc (size (j + 3)) }

pub returns : goal.returns
returns g c = λ h k.
    let s = c.args.self.now in
    cc (c.add_four.ensures h k, added_pass h s.at.now s.src.now c.args.dst.now c.args.j)
