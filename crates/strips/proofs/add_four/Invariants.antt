-- `strips::add_four` meets its contract.
use Prim.Native.Nat.{ℕ}
use lib.ListN.{get_or}
use Rattle.strips.specs.Planes.{sum_four, Gives}
use Rattle.lists.proofs.Written.{Written}
use Rattle.strips.proofs.add_four.Given as goal

abbrev pub invariant-loop-b : goal.invariant-loop-b
invariant-loop-b g l =
    (h : ℕ → ℕ) → Gives (goal.F-post g l.f) h
    → Written (λ b. sum_four (h (get_or l.initial.dst b 0)) l.s0 l.s1 l.s2 l.s3 b) l.b l.initial.dst l.dst
