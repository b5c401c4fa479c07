-- `square::multipliers` meets its contract: 0 plus v times each entry, and 1 ⊕ v in line r, where v is the inverse of
-- the pivot.
use mathlib.Core.Path.{◌≡◌, ap, ap₂, ◌∙◌}
use mathlib.Core.Bool.{cond}
use mathlib.Core.List.{List}
use Prim.Native.Nat.{ℕ, ◌<◌}
use native.Mathlib.Omega.{arith}
use lib.Dec.{eqb}
use lib.ListN.{length, get_or, set, replicate, length-replicate, get_or-replicate}
use Rattle.gf256.specs.Field.{◌⊕◌, ◌⊗◌, inverse}
use Rattle.gf256.proofs.Ring.{zero-add}
use Rattle.strips.specs.Strips.{added_scaled}
use Rattle.strips.proofs.Added.{added_length, added_at_lem}
use Rattle.square.proofs.Steps.{set_at}
use Rattle.square.proofs.multipliers.Goals as goal

-- What the array holds: v times the entries, and 1 ⊕ v at r, where v is the inverse of the pivot.
multiplier_at_lem : (es : List ℕ) (r v pivot m : ℕ) → r < m → v ≡ inverse pivot → (i : ℕ) → i < m
    → get_or (set (added_scaled v 0 es (replicate m 0)) r (1 ⊕ v)) i 0
    ≡ cond (eqb i r) (1 ⊕ inverse pivot) (inverse pivot ⊗ get_or es i 0)
multiplier_at_lem es r v pivot m h e i l =
    let zeros : List ℕ = replicate m 0 in
    let size : length zeros ≡ m = length-replicate m 0 in
    let other : get_or (added_scaled v 0 es zeros) i 0 ≡ v ⊗ get_or es i 0 =
    added_at_lem v es zeros i (omega arith) ∙ rw (get_or-replicate {A = ℕ} m i 0 0 l, zero-add) in
    set_at (added_scaled v 0 es zeros) r (1 ⊕ v) i (omega (arith, added_length v 0 es zeros))
    ∙ ap₂ (λ (v x : ℕ). cond (eqb i r) (1 ⊕ v) x) e (other ∙ ap (λ (v : ℕ). v ⊗ get_or es i 0) e)

pub returns : goal.returns
unfolding ◌⊕◌
returns c =
    let g = c.args in
    record {
      at = λ i l.
          ap (λ (x : List ℕ). get_or (set x g.r (1 ⊕ c.inverse_of-v.result)) i 0) c.add_scaled.ensures
          ∙ multiplier_at_lem _ g.r c.inverse_of-v.result _ 80 (omega arith) c.inverse_of-v.ensures i l;
    }
