-- The elimination of a square, column by column. What stands beside the square goes through the same steps, as the
-- right half of an augmented matrix does: where it was the unit square, rows and columns are equally many and each
-- column has a pivot, it becomes the inverse (`regular` in document/proofs/Squares.antt).
--
-- Eliminated                   : how an elimination ends: what became of the right half, or the first column that has
--                                no pivot and the square as it is then
-- clearing rows r next b u     : column r cleared in b and its right half u, both handed on to next
-- end_from rows n r a t         : n columns to do from column r on, on the square a with the right half t
-- eliminated rows columns s t  : the elimination of s with the right half t
-- lines_of e                   : the lines that e has, of the right half or of the square
-- kernel_from columns r a       : the vector that is read off a square a with no pivot in column r: the entries of the
--                                column above line r, 1 at r, 0 below. The square takes it to zero (`stuck_kernel` in
--                                document/proofs/Squares.antt)
use Rattle.std.specs.Prelude.{cond, List, ℕ, zero, suc, eqb, ltb, Result, Ok, Err}
use Rattle.std.specs.Option.{option_map_or}
use Rattle.lists.specs.Listed.{listed}
use Rattle.square.specs.declared.Line.{Line}
use Rattle.square.specs.declared.Singular.{Singular}
use Rattle.square.specs.Steps.{entry, stepped, lifted, multiplier_at, pivot_from}

abbrev pub Eliminated : Type 0
Eliminated = Result (List Line) Singular

-- Column r is cleared by the pivot in line r of b, and `next` goes on with the square and the right half.
abbrev pub clearing : ℕ → ℕ → (List Line → List Line → Eliminated) → List Line → List Line → Eliminated
clearing rows r next b u = next (stepped (multiplier_at b r r) r b rows) (stepped (multiplier_at b r r) r u rows)

-- Where the pivot is zero another line is looked for; only a column in which there is none ends the elimination.
unfoldable pub end_from : ℕ → ℕ → ℕ → List Line → List Line → Eliminated
end_from rows zero r a t = Ok t
end_from rows (suc n) r a t =
    option_map_or (λ p. clearing rows r (end_from rows n (suc r)) (lifted r p a) (lifted r p t)) (pivot_from a r r rows)
    (Err (record { column = r; lines = a }))

abbrev pub eliminated : ℕ → ℕ → List Line → List Line → Eliminated
eliminated rows columns s t = end_from rows columns 0 s t

abbrev pub lines_of : Eliminated → List Line
lines_of (Ok t) = t
lines_of (Err e) = e.lines

unfoldable pub kernel_from : ℕ → ℕ → List Line → List ℕ
kernel_from columns r a = listed columns (λ j. cond (ltb j r) (entry a j r) (cond (eqb j r) 1 0))
