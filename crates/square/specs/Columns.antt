-- A column's entries, and what clears it.
--
-- Holds x j v           : v is the entry of the line x in column j, which x reaches, and a byte
-- Gathered f j rows i e : e has room for rows entries, and holds those in column j of the first i of the lines f 0,
--                         f 1, ..
-- EntriesOf s j rows e  : e holds the entries of column j in the lines of s below rows
-- Multipliers e r p c   : c i is what line i is given of line r once line p, the pivot's, is added to it where they are
--                         two. e has the entries before that: the inverse of the pivot times line i's, and for line r
--                         what makes its pivot 1
use Rattle.std.specs.Prelude.{◌≡◌, cond, List, ℕ, ◌≤◌, ◌<◌, eqb, length, get_or}
use Rattle.gf256.specs.Field.{◌⊕◌, ◌⊗◌, inverse}
use Rattle.square.specs.declared.Line.{Line}
use Rattle.square.specs.Steps.{side, line_at}

pub record Holds (x : List ℕ) (j v : ℕ) : Type 0 where
  pub value : v ≡ get_or x j 0
  pub within : j < length x
  pub byte : v < 256

pub record Gathered (f : ℕ → List ℕ) (j rows i : ℕ) (e : List ℕ) : Type 0 where
  pub room : rows ≤ length e
  pub held : (k : ℕ) → k < i → Holds (f k) j (get_or e k 0)

abbrev pub EntriesOf : List Line → ℕ → ℕ → List ℕ → Type 0
EntriesOf s j rows e = Gathered (line_at s) j rows rows e

pub record Multipliers (e : List ℕ) (r p : ℕ) (c : List ℕ) : Type 0 where
  pub at : (i : ℕ) → i < side
      → get_or c i 0 ≡ cond (eqb i r) (1 ⊕ inverse (get_or e p 0)) (inverse (get_or e p 0) ⊗ get_or e i 0)
