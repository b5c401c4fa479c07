-- `lists::each_part` meets its contract. The invariant: what the calls leave stands in the parts before i.
use mathlib.Core.Path.{◌≡◌}
use mathlib.Core.List.{List}
use Prim.Native.Nat.{ℕ, ◌*◌}
use lib.ListN.{length, take}
use Rattle.lists.specs.Parts.{parts, LeavesParts}
use Rattle.lists.proofs.cut.each_part.Given as goal

abbrev pub invariant-loop-i : goal.invariant-loop-i
invariant-loop-i g l = record {
  whole : length l.out ≡ l.count * l.size;
  written : (f : ℕ → List ℕ) → LeavesParts g.F.Fn l.put l.size l.count f → take (l.i * l.size) l.out ≡ parts l.size f l.i;
}
