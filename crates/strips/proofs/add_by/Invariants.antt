-- `strips::add_by` meets its contract. The invariant: what f gives of the first b bytes of the strip is added.
use Prim.Native.Nat.{ℕ}
use Rattle.strips.specs.Planes.{Gives}
use Rattle.strips.proofs.Added.{Adding}
use Rattle.strips.proofs.add_by.Given as goal

abbrev pub invariant-loop-b : goal.invariant-loop-b
invariant-loop-b g l = (h : ℕ → ℕ) → Gives (goal.F-post g l.f) h → Adding h l.at l.src l.initial.x l.b l.x
