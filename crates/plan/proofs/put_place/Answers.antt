-- `plan::put_place` meets its contract: two entries stored are two writes in a row.
use mathlib.Core.Path.{◌≡◌}
use mathlib.Core.List.{List, [], ◌∷◌}
use Prim.Native.Nat.{ℕ, ◌+◌, ◌≤◌, ◌<◌}
use native.Mathlib.Omega.{arith}
use lib.ListN.{length, set, length-set}
use Rattle.lists.specs.Put.{Wrote}
use Rattle.lists.proofs.Put.{wrote_one, wrote_then}
use Rattle.document.specs.Plan.{plan_bytes}
use Rattle.plan.proofs.put_place.Goals as goal

pub bounds-out-at-2 : goal.bounds-out-at-2
bounds-out-at-2 c = rw length-set (omega (arith, c.requires.0))

two_stored : (d : List ℕ) (at a b : ℕ) → at + 2 ≤ length d
    → Wrote d at (a ∷ b ∷ []) (at + 2) (set (set d at a) (at + 1) b)
two_stored d at a b h =
    let e : at + 1 + 1 ≡ at + 2 = omega arith in
    let l : at + 1 < length (set d at a) = rw length-set (omega arith) in
    rw e at (wrote_then (omega arith) (wrote_one d at a (omega arith)) (wrote_one (set d at a) (at + 1) b l))

pub returns : goal.returns
unfolding plan_bytes
returns c = two_stored _ _ _ _ c.requires.0
