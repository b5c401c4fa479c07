-- `square::unit_square` meets its contract. The loop's invariant: the lines passed have their 1, the others are zeros;
-- 80 of them are all.
use mathlib.Core.Path.{◌≡◌}
use Prim.Native.Nat.{ℕ}
use lib.ListN.{replicate}
use Rattle.square.specs.declared.Line.{Line}
use Rattle.square.specs.Steps.{filled, unit_line}
use Rattle.square.proofs.unit_square.Given as goal

abbrev pub unit_at : ℕ → Line
unit_at i = record { c = unit_line 80 i }

abbrev pub zeros : Line
zeros = record { c = replicate 80 0 }

abbrev pub invariant-loop-i : goal.invariant-loop-i
invariant-loop-i l = l.line-items ≡ filled unit_at (replicate 80 zeros) l.i
