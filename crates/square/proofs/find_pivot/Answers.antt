-- `square::find_pivot` meets its contract: the entries are those of the column.
use Rattle.std.proofs.Common.{◌≡◌, ◌≢◌, ℕ, ◌-◌, ◌≤◌, ◌<◌, List, get_or, Option, Some, None, rules, arith, sym, ◌∙◌}
use Rattle.std.proofs.Common.{MatchOption}
use Rattle.std.proofs.iter.runs.Sources.{ranges}
use Rattle.square.specs.declared.Line.{Line}
use Rattle.square.specs.Steps.{pivot_from}
use Rattle.square.specs.Columns.{EntriesOf}
use Rattle.square.proofs.Pivots.{pivot_first, pivot_missing}
use Rattle.square.proofs.find_pivot.Goals as goal

-- r is the first index from i on, below rows, at which e is not 0
abbrev Found : List ℕ → ℕ → ℕ → Option ℕ → Type 0
Found e i rows r =
    MatchOption r ((k : ℕ) → i ≤ k → k < rows → get_or e k 0 ≡ 0)
    (λ p. (i ≤ p) × (p < rows) × (get_or e p 0 ≢ 0) × ((k : ℕ) → i ≤ k → k < p → get_or e k 0 ≡ 0))

found_pivot : (s : List Line) (j i rows : ℕ) (e : List ℕ) → EntriesOf s j rows e
    → (r : Option ℕ) → Found e i rows r → r ≡ pivot_from s j i rows
found_pivot s j i rows e h None f =
    pivot_missing s j i (rows - i) (λ q l m. sym (h.held q (omega arith)).value ∙ f q l (omega arith))
found_pivot s j i rows e h (Some p) f =
    pivot_first s j i (rows - i) p
    record {
      low = f.0;
      high = omega (arith, f.0, f.1);
      nonzero = λ z. f.2 ((h.held p f.1).value ∙ z);
      above = λ q l m. sym (h.held q (omega (arith, f.1))).value ∙ f.3 q l m;
    }

pub returns : goal.returns
returns c =
    let a = c.args in
    let found : Found a.entries.now a.from a.rows c.find.result = search (rules, ranges) in
    λ s j h. found_pivot s j _ _ _ h _ found
