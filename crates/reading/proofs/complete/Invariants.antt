-- `reading::complete` meets its contract. The invariant: the half pairs before e are completed.
use mathlib.Core.Path.{◌≡◌}
use Rattle.reading.specs.Steps.{completed}
use Rattle.reading.proofs.complete.Given as goal

abbrev pub invariant-loop-e : goal.invariant-loop-e
invariant-loop-e l = l.y ≡ completed l.p l.nodes l.lines l.r l.e l.initial.y
