-- A square as a list of lines, and the steps of its elimination. A column here is that of a matrix, not a node's. The
-- lists may have any lengths; an entry that is missing counts as 0.
--
-- side                 : the lines, and the columns, that the functions have room for
-- no_line               : the line that stands past the end
-- line_at s i           : the entries of line i of s
-- entry s i j          : the entry of line i in column j
-- filled f l n         : l with its first n entries replaced by f 0, f 1, ..
-- stepped c p s rows   : s, with c i times line p added to each line i below rows
-- lifted r p s         : s, with line p added to line r where they are two
-- multiplier_at s r j i : what line i is given of line r, so that column j has 1 in line r and 0 elsewhere
-- pivot_in s j i n      : the first of n lines from i on whose entry in column j is not 0
-- pivot_from s j i rows : the same of the lines from i on, below rows
-- unit_line m r         : line r of the unit square of m lines
-- unit_square m         : the unit square of m lines
use Rattle.std.specs.Prelude.{cond, List, [], ℕ, zero, suc, ◌+◌, ◌-◌, get_or, set, eqb, Option, Some, None}
use Rattle.lists.specs.Listed.{listed}
use Rattle.gf256.specs.Field.{◌⊕◌, ◌⊗◌, inverse}
use Rattle.strips.specs.Strips.{added_scaled}
use Rattle.square.specs.declared.Line.{Line}

-- 'The coefficient square of one reading, at most 80 by 80 field elements'
abbrev pub side : ℕ
side = 80

abbrev pub no_line : Line
no_line = record { c = [] }

abbrev pub line_at : List Line → ℕ → List ℕ
line_at s i = (get_or s i no_line).c

abbrev pub entry : List Line → ℕ → ℕ → ℕ
entry s i j = get_or (line_at s i) j 0

unfoldable pub filled {ℓ} : {X : Type ℓ} → (ℕ → X) → List X → ℕ → List X
filled f l zero = l
filled f l (suc n) = set (filled f l n) n (f n)

-- The one kind of step: all lines are given a multiple of one line.
unfoldable pub stepped : (ℕ → ℕ) → ℕ → List Line → ℕ → List Line
stepped c p s rows = filled (λ i. record { c = added_scaled (c i) 0 (line_at s p) (line_at s i) }) s rows

-- Where the pivot is zero, a lower line is added.
unfoldable pub lifted : ℕ → ℕ → List Line → List Line
lifted r p s = cond (eqb p r) s (set s r (record { c = added_scaled 1 0 (line_at s p) (line_at s r) }))

-- Each other line loses its entry in the column; in line r the pivot becomes 1.
unfoldable pub multiplier_at : List Line → ℕ → ℕ → ℕ → ℕ
multiplier_at s r j i = cond (eqb i r) (1 ⊕ inverse (entry s r j)) (inverse (entry s r j) ⊗ entry s i j)

unfoldable pub pivot_in : List Line → ℕ → ℕ → ℕ → Option ℕ
pivot_in s j i zero = None
pivot_in s j i (suc n) = cond (eqb (entry s i j) 0) (pivot_in s j (i + 1) n) (Some i)

abbrev pub pivot_from : List Line → ℕ → ℕ → ℕ → Option ℕ
pivot_from s j i rows = pivot_in s j i (rows - i)

unfoldable pub unit_line : ℕ → ℕ → List ℕ
unit_line m r = listed m (λ j. cond (eqb j r) 1 0)

unfoldable pub unit_square : ℕ → List Line
unit_square m = listed m (λ i. record { c = unit_line m i })
