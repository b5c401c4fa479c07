-- The laws of a column's entries, and of the multipliers that are computed from them.
use mathlib.Core.Path.{◌≡◌, sym, ap, ap₂, ◌∙◌}
use mathlib.Core.Logic.{◌≢◌}
use mathlib.Core.Bool.{cond}
use mathlib.Core.List.{List}
use Prim.Native.Nat.{ℕ, ◌+◌, ◌≤◌, ◌<◌}
use native.Mathlib.Decide.{ℕ_discrete}
use native.Mathlib.Nat.{not-suc-le-zero}
use native.Mathlib.Omega.{arith}
use lib.Dec.{eqb}
use lib.ListN.{length, get_or, set, length-set}
use lib.Seq.{get_or-set_same, get_or-set_other}
use borrow.Author.Tests.{eq-eqb, ne_eqb}
use Rattle.gf256.specs.Field.{◌⊕◌, ◌⊗◌, inverse}
use Rattle.gf256.proofs.Ring.{zero-add, one-mul}
use Rattle.strips.specs.Strips.{added_scaled}
use Rattle.strips.proofs.Added.{added_at_lem}
use Rattle.square.specs.declared.Line.{Line}
use Rattle.square.specs.Steps.{no_line, line_at, entry, lifted, multiplier_at}
use Rattle.square.specs.Columns.{Holds, Gathered, EntriesOf}
use Rattle.square.proofs.Pivots.{Pivoted}

-- ---- entries, gathered line by line
module _ {f : ℕ → List ℕ} {j rows : ℕ} {e : List ℕ} where
  pub gathered_none : rows ≤ length e → Gathered f j rows 0 e
  gathered_none h = record { room = h; held = λ k l. absurd (not-suc-le-zero l) }

  pub gathered_more : {i v : ℕ} → Gathered f j rows i e → i < rows → Holds (f i) j v
      → Gathered f j rows (i + 1) (set e i v)
  gathered_more {i} {v} g h w = record { room = rw length-set g.room; held = λ k l. go k l (ℕ_discrete k i) }
    where
      go : (k : ℕ) → k < i + 1 → Dec (k ≡ i) → Holds (f k) j (get_or (set e i v) k 0)
      go k l (yes q) = rw (q, get_or-set_same e i v 0 (omega (arith, g.room))) w
      go k l (no q) = rw (get_or-set_other e i k v 0 q) (g.held k (omega arith))

-- ---- the multipliers, by the entries before the lift
module _ (s : List Line) (r p : ℕ) {rows : ℕ} {e : List ℕ} (size : rows ≤ length s) (h : EntriesOf s r rows e)
    (found : Pivoted s r r rows p) where
  -- line r, with line p added
  sum : List ℕ
  sum = added_scaled 1 0 (line_at s p) (line_at s r)

  -- the lifted line has in column r the pivot's entry: its own was 0 if another line was added
  pivot_entry : get_or e p 0 ≡ entry (lifted r p s) r r
  unfolding lifted sum
  pivot_entry = (h.held p found.high).value ∙ go (ℕ_discrete p r)
    where
      go : Dec (p ≡ r) → entry s p r ≡ entry (cond (eqb p r) s (set s r (record { c = sum }))) r r
      go (yes q) = rw (eq-eqb p r q, q)
      go (no q) =
          let own = h.held r (omega (arith, found.low, found.high)) in
          let zero : entry s r r ≡ 0 = found.above r (omega arith) (omega (arith, found.low)) in
          let lifted_line = get_or-set_same s r (record { c = sum }) no_line (omega (arith, found.low, found.high)) in
          rw (ne_eqb p r q)
          (sym (ap (λ (x : Line). get_or x.c r 0) lifted_line ∙ added_at_lem 1 (line_at s p) (line_at s r) r own.within
          ∙ rw (zero, zero-add, one-mul (entry s p r) (omega (arith, h.held p found.high)))))

  other_entry : (i : ℕ) → i ≢ r → i < rows → get_or e i 0 ≡ entry (lifted r p s) i r
  unfolding lifted sum
  other_entry i q k = (h.held i k).value ∙ go (ℕ_discrete p r)
    where
      go : Dec (p ≡ r) → entry s i r ≡ entry (cond (eqb p r) s (set s r (record { c = sum }))) i r
      go (yes w) = rw (eq-eqb p r w)
      go (no w) =
          rw (ne_eqb p r w)
          (ap (λ (x : Line). get_or x.c r 0) (sym (get_or-set_other s r i (record { c = sum }) no_line q)))

  pub multiplier_of : (i : ℕ) → i < rows
      → cond (eqb i r) (1 ⊕ inverse (get_or e p 0)) (inverse (get_or e p 0) ⊗ get_or e i 0)
      ≡ multiplier_at (lifted r p s) r r i
  unfolding multiplier_at
  multiplier_of i k = go (ℕ_discrete i r)
    where
      go : Dec (i ≡ r)
          → cond (eqb i r) (1 ⊕ inverse (get_or e p 0)) (inverse (get_or e p 0) ⊗ get_or e i 0)
          ≡ cond (eqb i r) (1 ⊕ inverse (entry (lifted r p s) r r))
          (inverse (entry (lifted r p s) r r) ⊗ entry (lifted r p s) i r)
      go (yes q) = rw (eq-eqb i r q) (ap (λ (v : ℕ). 1 ⊕ inverse v) pivot_entry)
      go (no q) = rw (ne_eqb i r q) (ap₂ (λ (v x : ℕ). inverse v ⊗ x) pivot_entry (other_entry i q k))
