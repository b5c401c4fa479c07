-- `half_pairs::system_line` meets its contract. The invariant: the first f entries are written.
use mathlib.Core.Path.{◌≡◌}
use lib.ListN.{replicate}
use Rattle.square.specs.Steps.{filled}
use Rattle.half_pairs.proofs.System.{coefficient_entry}
use Rattle.half_pairs.proofs.system_line.Given as goal

abbrev pub invariant-loop-f : goal.invariant-loop-f
invariant-loop-f l = l.c ≡ filled (coefficient_entry l.p l.nodes l.e) (replicate 80 0) l.f
