-- `plan::list_step` meets its contract. The invariant: those of the first i nodes of the walk that the step goes over
-- are written, and end where the list may end.
use Prim.Native.Nat.{◌+◌, ◌%◌, ◌≤◌}
use Rattle.lists.specs.Listed.{along}
use Rattle.lists.specs.Put.{Wrote}
use Rattle.plan.specs.Steps.{in_step}
use Rattle.plan.proofs.list_step.Given as goal

abbrev pub invariant-loop-i : goal.invariant-loop-i
invariant-loop-i l =
    (l.next ≤ l.end)
    × Wrote l.initial.out l.at (along l.i (λ e. (l.start + e) % l.p.n) (in_step l.step l.p.a l.f)) l.next l.out
