-- `gf256::total_of` meets its contract. The invariant: the sum so far, and the sum of the entries left, are the sum of
-- all.
use mathlib.Core.Path.{◌≡◌}
use Prim.Native.Nat.{◌-◌, ◌≤◌}
use lib.ListN.{length, drop}
use Rattle.gf256.specs.Field.{◌⊕◌, total_of}
use Rattle.gf256.proofs.total_of.Given as goal

abbrev pub invariant-loop-x : goal.invariant-loop-x
invariant-loop-x l = l.total ⊕ total_of (drop l.x-index l.xs) ≡ total_of l.xs
