-- 'Reading back': the data from the columns of k named nodes.
--
-- list_accepted n b k nodes  : the test whether nodes are k strictly rising numbers from b on, below n
-- coefficient_at p q r       : by what the data symbol at the place r is multiplied in the symbol stored at q
-- data_place p e             : the place of data symbol e, counted row by row
-- data_index p q             : the number of the data symbol at the place q, counted so
-- joined_columns p nodes x   : the columns of the array x at the named nodes, joined in list order
-- joined_place p nodes z     : the place of strip z of them
-- coefficient_line p q       : the coefficients of all data symbols in what is stored at the place q
-- square_of p nodes          : the coefficient square: a line for each strip of the joined columns
-- elimination_of p nodes     : its elimination, beside the unit square
-- ambiguous p nodes         : the test of refusal 10
-- inverse_of p nodes         : the lines of the inverse of the coefficient square, where the test is false
-- data_from p nodes x        : the data read back from the joined columns x
-- read_tests p nodes x y     : the refusals of reading back past those of a profile, in their order
-- read_with p nodes x y      : reading back the columns x of the named nodes into y with the profile p: the answer, and
--                             what y holds then
-- read_of p nodes x y        : the same for any numbers p
--
-- From `square`: eliminated rows columns s t is how the elimination of s beside t ends, with `Ok` and what became of t if
-- each column has a pivot.
--
-- To be believed is joined_columns. All else only computes, from coefficient_at to data_from: demand 2
-- (demands/specs/Reading.antt) says that the test of refusal 10 is true exactly where some two different data give
-- equal columns, and that the data read back are otherwise the only ones with these columns. What the other tests come
-- to is said line by line there too.
use Rattle.std.specs.Prelude.{Bool, true, false, ◌&&◌, not, List, [], ◌∷◌, ◌++◌, ℕ, zero, suc, ◌+◌, ◌*◌, ◌/◌, ◌%◌, eqb, leb, ltb, length, get_or, is_err, Ok, Err}
use Rattle.std.proofs.Math.Decide.{ℕ_discrete}
use Rattle.lists.specs.Listed.{listed}
use Rattle.algebra.specs.Pick.{pick}
use Rattle.algebra.specs.Sum.{sum}
use Rattle.algebra.specs.Weight.{weight}
use Rattle.square.specs.declared.Line.{Line}
use Rattle.square.specs.Steps.{entry, unit_square}
use Rattle.square.specs.Elimination.{Eliminated, eliminated, lines_of}
use Rattle.document.specs.declared.Numbers.{Numbers}
use Rattle.document.specs.declared.Profile.{Profile}
use Rattle.document.specs.declared.Place.{Place}
use Rattle.document.specs.declared.Refusal.TheVariants.{OutOfRange, BufferLength, Ambiguous}
use Rattle.document.specs.Refusals.{Test, tried, Answer}
use Rattle.document.specs.Profile.{on_accepted}
use Rattle.document.specs.Places.{place}
use Rattle.document.specs.ByteField.{bytes, Byte, byte, number}
use Rattle.document.specs.Encoding.{column_in, coupled_at, laid_out}

infixl 70 ◌⊗◌
open bytes use {𝟘, mul as ◌⊗◌}

-- The test of 'k strictly rising numbers below n'.
unfoldable pub list_accepted : ℕ → ℕ → ℕ → List ℕ → Bool
list_accepted n b zero [] = true
list_accepted n b zero (x ∷ xs) = false
list_accepted n b (suc k) [] = false
list_accepted n b (suc k) (x ∷ xs) = leb b x && (ltb x n && list_accepted n (suc x) k xs)

module _ (p : Profile) where
  open p use {k, a as A, s as S}

  -- What is stored at q for the data that are 1 at r and 0 elsewhere: in r's row each base symbol is the weight of r's
  -- node there, in the other rows all are 0. Each stored symbol is the sum of the data symbols times these.
  unfoldable pub coefficient_at : Place → Place → Byte
  coefficient_at q r =
      coupled_at p
      (λ u. pick (ℕ_discrete u.row.0 r.row.0) (weight bytes k byte r.node.0 (byte u.node.0)) 𝟘) q

  -- The k symbols of a row stand together: they fix one polynomial.
  abbrev pub data_place : ℕ → Place
  data_place e = place (e % k) (e / k)

  abbrev pub data_index : Place → ℕ
  data_index q = q.row.0 * k + q.node.0

  -- 'those nodes' columns joined in list order'
  unfoldable pub joined_columns : List ℕ → List ℕ → List ℕ
  joined_columns [] x = []
  joined_columns (j ∷ nodes) x = column_in p x j ++ joined_columns nodes x

  -- 'a node's column is its A strips, row 0 first': strip z is row z mod A of the node z div A of the list.
  abbrev pub joined_place : List ℕ → ℕ → Place
  joined_place nodes z = place (get_or nodes (z / A) 0) (z % A)

  unfoldable pub coefficient_line : Place → Line
  coefficient_line q = record { c = listed (k * A) (λ e. number (coefficient_at q (data_place e))) }

  -- 'The coefficient square of one reading, at most 80 by 80 field elements'
  unfoldable pub square_of : List ℕ → List Line
  square_of nodes = listed (k * A) (λ z. coefficient_line (joined_place nodes z))

  unfoldable pub elimination_of : List ℕ → Eliminated
  elimination_of nodes = eliminated (k * A) (k * A) (square_of nodes) (unit_square (k * A))

  -- The test of refusal 10, 'whatever bytes the lent columns hold': it does not look at them.
  unfoldable pub ambiguous : List ℕ → Bool
  ambiguous nodes = is_err (elimination_of nodes)

  unfoldable pub inverse_of : List ℕ → List Line
  inverse_of nodes = lines_of (elimination_of nodes)

  -- Each data symbol is the sum of the joined columns' symbols at its byte offset, times its line of the inverse.
  unfoldable pub data_from : List ℕ → List ℕ → List ℕ
  data_from nodes x =
      laid_out p k
      (λ b q. sum bytes (k * A) (λ z. byte (entry (inverse_of nodes) (data_index q) z) ⊗ byte (get_or x (z * S + b) 0)))

-- The refusals of reading back past those of a profile: 4 for the list, 5 for columns or data not of kAS bytes, 10.
unfoldable pub read_tests : Profile → List ℕ → List ℕ → List ℕ → List Test
read_tests p nodes x y =
    record { refusal = OutOfRange; holds = not (list_accepted p.n 0 p.k nodes) }
    ∷ record {
      refusal = BufferLength;
      holds = not (eqb (length x) (p.k * p.a * p.s) && eqb (length y) (p.k * p.a * p.s));
    }
    ∷ record { refusal = Ambiguous; holds = ambiguous p nodes }
    ∷ []

unfoldable pub read_with : Profile → List ℕ → List ℕ → List ℕ → Answer × List ℕ
read_with p nodes x y = tried (read_tests p nodes x y) (λ r. (Err r, y)) (Ok 0, data_from p nodes x)

unfoldable pub read_of : Numbers → List ℕ → List ℕ → List ℕ → Answer × List ℕ
read_of p nodes x y = on_accepted p (λ r. (Err r, y)) (λ p. read_with p nodes x y)
