-- The laws of the elimination, one column at a time.
use mathlib.Core.Path.{◌≡◌, sym, ap₂, ◌∙◌}
use mathlib.Core.List.{List}
use Prim.Native.Nat.{ℕ, suc, ◌+◌, ◌-◌, ◌≤◌, ◌<◌}
use native.Mathlib.Numerals.{add-one}
use native.Mathlib.Omega.{arith}
use lib.ListN.{get_or}
use Rattle.std.specs.Prelude.{Some, None, Ok, Err}
use Rattle.square.specs.declared.Line.{Line}
use Rattle.square.specs.declared.Step.{Step}
use Rattle.square.specs.Steps.{lifted, pivot_from}
use Rattle.square.specs.Elimination.{clearing, end_from}
use Rattle.square.specs.Columns.{EntriesOf}
use Rattle.square.specs.Clearing.{StepOf, after_step}
use Rattle.square.proofs.Steps.{left_next, stepped_ext}
use Rattle.square.proofs.Pivots.{pivoted}

-- the entry that the search finds in some column j is one to divide by
pub reached_pivot : {rows r j p : ℕ} (a : List Line) {entries : List ℕ} → rows ≤ 80 → r < 80 → EntriesOf a j rows entries
    → pivot_from a j r rows ≡ Some p → (r < 80) × (p < 80) × (0 < get_or entries p 0)
reached_pivot {rows} {r} {j} {p} a few h column e =
    let f = pivoted a j r rows p e in
    (h, omega (arith, f.high), omega (arith, f.nonzero, (column.held p f.high).value))

module _ (rows r : ℕ) (a t : List Line) where
  pub end_at : (n p : ℕ) → pivot_from a r r rows ≡ Some p
      → end_from rows (suc n) r a t ≡ clearing rows r (end_from rows n (suc r)) (lifted r p a) (lifted r p t)
  unfolding end_from
  end_at n p e = rw e

  pub end_stuck : (n : ℕ) → pivot_from a r r rows ≡ None
      → end_from rows (suc n) r a t ≡ Err (record { column = r; lines = a })
  unfolding end_from
  end_stuck n e = rw e

  -- ---- the columns from r on, below `columns`
  module _ {columns : ℕ} where
    pub end_all : columns ≤ r → end_from rows (columns - r) r a t ≡ Ok t
    unfolding end_from
    end_all h = let z : columns - r ≡ 0 = omega arith in rw z

    module _ (h : r < columns) where
      pub end_here : pivot_from a r r rows ≡ None
          → end_from rows (columns - r) r a t ≡ Err (record { column = r; lines = a })
      end_here e = rw (left_next r columns h) (end_stuck (columns - (r + 1)) e)

      -- by the step that clears column r
      pub end_next : {m : Step} → StepOf a r rows m
          → end_from rows (columns - r) r a t
          ≡ end_from rows (columns - (r + 1)) (r + 1) (after_step m a) (after_step m t)
      end_next {m} w =
          rw (left_next r columns h, add-one r, w.line, w.size)
          (rw (add-one r) at (end_at (columns - (r + 1)) m.p w.pivot)
          ∙ ap₂ (end_from rows (columns - suc r) (suc r)) (sym (stepped_ext _ _ r (lifted r m.p a) rows w.given))
          (sym (stepped_ext _ _ r (lifted r m.p t) rows w.given)))
