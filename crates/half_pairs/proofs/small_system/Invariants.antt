-- `half_pairs::small_system` meets its contract. The front of the table of half pairs is their list; the invariant: the
-- lines before e are written.
use mathlib.Core.Path.{◌≡◌}
use mathlib.Core.List.{List}
use Prim.Native.Nat.{ℕ}
use lib.ListN.{replicate}
use Rattle.square.specs.declared.Line.{Line}
use Rattle.square.specs.Steps.{filled}
use Rattle.document.specs.declared.Profile.{Profile}
use Rattle.half_pairs.specs.HalfPairs.{system_line}
use Rattle.half_pairs.proofs.small_system.Given as goal

abbrev pub system_line_of : Profile → List ℕ → ℕ → Line
system_line_of p nodes e = record { c = system_line p nodes e }

abbrev pub blank : List Line
blank = replicate 80 (record { c = replicate 80 0 })

abbrev pub invariant-loop-e : goal.invariant-loop-e
invariant-loop-e l = l.s ≡ filled (system_line_of l.p l.nodes) blank l.e
