-- The laws of the search for a pivot: which line it finds, and what is known of that line, or where there is none.
use Rattle.std.specs.Prelude.{Some, None}
use mathlib.Core.Path.{◌≡◌, refl, ap}
use mathlib.Core.Logic.{◌≢◌}
use mathlib.Core.Bool.{Bool, true, false, cond}
use mathlib.Core.List.{List}
use Prim.Native.Nat.{ℕ, zero, suc, ◌+◌, ◌-◌, ◌≤◌, ◌<◌}
use native.Mathlib.Decide.{ℕ_discrete}
use native.Mathlib.Omega.{arith}
use lib.Dec.{eqb}
use borrow.Author.Tests.{ne_eqb, eqb-true, eqb-false}
use Rattle.square.specs.declared.Line.{Line}
use Rattle.square.specs.Steps.{entry, pivot_in, pivot_from}

-- A pivot lies within the lines that were looked at; its entry is not 0, and those above it are.
pub record Pivoted (s : List Line) (j i rows p : ℕ) : Type 0 where
  pub low : i ≤ p
  pub high : p < rows
  pub nonzero : entry s p j ≢ 0
  pub above : (q : ℕ) → i ≤ q → q < p → entry s q j ≡ 0

module _ (s : List Line) (j : ℕ) where
  -- ---- the first line whose entry is not 0 is the pivot's
  pub pivot_missing : (i n : ℕ) → ((q : ℕ) → i ≤ q → q < i + n → entry s q j ≡ 0) → None ≡ pivot_in s j i n
  unfolding pivot_in
  pivot_missing i zero h = refl
  pivot_missing i (suc n) h =
      rw (h i (omega arith) (omega arith)) (pivot_missing (i + 1) n (λ q l m. h q (omega arith) (omega arith)))

  pub pivot_first : (i n p : ℕ) → Pivoted s j i (i + n) p → Some p ≡ pivot_in s j i n
  unfolding pivot_in
  pivot_first i zero p f = absurd (omega (arith, f.low, f.high))
  pivot_first i (suc n) p f = go (ℕ_discrete p i) (pivot_first (i + 1) n p)
    where
      go : Dec (p ≡ i) → (Pivoted s j (i + 1) (i + 1 + n) p → Some p ≡ pivot_in s j (i + 1) n)
          → Some p ≡ cond (eqb (entry s i j) 0) (pivot_in s j (i + 1) n) (Some i)
      go (yes e) next = rw (ne_eqb (entry s i j) 0 (rw e at f.nonzero)) (ap Some e)
      go (no e) next =
          rw (f.above i (omega arith) (omega (arith, f.low)))
          (next
          record {
            low = omega (arith, f.low);
            high = omega (arith, f.high);
            nonzero = f.nonzero;
            above = λ q l m. f.above q (omega arith) m;
          })

  -- ---- the pivot that was found
  chosen : (i n p : ℕ) (b : Bool) → eqb (entry s i j) 0 ≡ b
      → (pivot_in s j (i + 1) n ≡ Some p → Pivoted s j (i + 1) (i + 1 + n) p)
      → cond b (pivot_in s j (i + 1) n) (Some i) ≡ Some p → Pivoted s j i (i + suc n) p
  chosen i n p true t r e =
      let f = r e in
      record {
        low = omega (arith, f.low);
        high = omega (arith, f.high);
        nonzero = f.nonzero;
        above = λ q h l. first q h l (ℕ_discrete q i);
      }
    where
      first : (q : ℕ) → i ≤ q → q < p → Dec (q ≡ i) → entry s q j ≡ 0
      first q h l (yes w) = rw w (eqb-true _ _ t)
      first q h l (no w) = (r e).above q (omega arith) l
  chosen i n p false t r e =
      let f : i ≡ p = cc in
      record {
        low = omega arith;
        high = omega arith;
        nonzero = rw f at (eqb-false (entry s i j) 0 t);
        above = λ q h l. absurd (omega arith);
      }

  within : (i n p : ℕ) → pivot_in s j i n ≡ Some p → Pivoted s j i (i + n) p
  unfolding pivot_in
  within i zero p e = let z : ◌≡◌ {A = ℕ} 0 1 = cc in absurd (omega arith)
  within i (suc n) p e = chosen i n p (eqb (entry s i j) 0) refl (within (i + 1) n p) e

  pub pivoted : (i rows p : ℕ) → pivot_from s j i rows ≡ Some p → Pivoted s j i rows p
  pivoted i rows p e =
      let f = within i (rows - i) p e in
      record { low = f.low; high = omega (arith, f.low, f.high); nonzero = f.nonzero; above = f.above }

  -- ---- no pivot
  passed : (i n : ℕ) (b : Bool) → eqb (entry s i j) 0 ≡ b
      → (pivot_in s j (i + 1) n ≡ None → (q : ℕ) → i + 1 ≤ q → q < i + 1 + n → entry s q j ≡ 0)
      → cond b (pivot_in s j (i + 1) n) (Some i) ≡ None → (q : ℕ) → i ≤ q → q < i + suc n → entry s q j ≡ 0
  passed i n true t r e q h l = go (ℕ_discrete q i)
    where
      go : Dec (q ≡ i) → entry s q j ≡ 0
      go (yes w) = rw w (eqb-true _ _ t)
      go (no w) = r e q (omega arith) (omega arith)
  passed i n false t r e q h l = let z : ◌≡◌ {A = ℕ} 0 1 = cc in absurd (omega arith)

  without : (i n : ℕ) → pivot_in s j i n ≡ None → (q : ℕ) → i ≤ q → q < i + n → entry s q j ≡ 0
  unfolding pivot_in
  without i zero e q h l = absurd (omega arith)
  without i (suc n) e q h l = passed i n (eqb (entry s i j) 0) refl (without (i + 1) n) e q h l

  pub unpivoted : (i rows : ℕ) → pivot_from s j i rows ≡ None → (q : ℕ) → i ≤ q → q < rows → entry s q j ≡ 0
  unpivoted i rows e q h l = without i (rows - i) e q h (omega arith)
