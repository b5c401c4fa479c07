-- Reading back: when it is refused, and demand 2, the rest: 'Reading back from k named drives returns the only data
-- whose array has those columns. A request in due form is refused exactly when some two different data sets give equal
-- columns on those drives.'
--
-- TwoData p nodes           : some two different data give equal columns on the named nodes
-- read_sentences p nodes x y : the lines for reading the columns x of the named nodes back into y, past those of a
--                             profile
-- Demand1Read p nodes x y   : reading back refuses as they say                                      demand_1_read
-- InDueForm p nodes x y     : the request is in due form: profile, list and lengths
-- OnlyData p nodes x d      : d are data whose array has the columns x on the named nodes, and no other data have them
-- ReadsOnlyData p nodes x y : what demand 2 says of one call, for the columns x and the buffer y
-- Demand2Reading            : for all numbers, lists and bytes                                      demand_2_reading
-- Shown in proofs/Reading.antt, under the name beside each.
--
-- The words it uses, from Encoding.antt, from document/specs (Encoding.antt and Reading.antt) and from
-- ksets/specs/Sets.antt:
-- DocumentArray p d x     : x is the array that document 01 defines for the data d
-- Data p d                : d are data
-- joined_columns p nodes x : the columns of the array x at the named nodes, joined in list order
-- Rising n k nodes        : nodes are k strictly rising numbers below n
use Rattle.std.specs.Prelude.{◌≡◌, ◌↔◌, ◌≢◌, List, [], ◌∷◌, ℕ, ◌*◌, length}
use Rattle.lists.specs.Each.{Bytes}
use Rattle.ksets.specs.Sets.{Rising}
use Rattle.document.specs.declared.Numbers.{Numbers}
use Rattle.document.specs.declared.Profile.{Profile}
use Rattle.document.specs.declared.Refusal.TheVariants.{OutOfRange, BufferLength, Ambiguous}
use Rattle.document.specs.Refusals.{answer_number, answer_value}
use Rattle.document.specs.Profile.{Accepted, profile_of}
use Rattle.document.specs.Encoding.{Data}
use Rattle.document.specs.Reading.{joined_columns, read_tests, read_of}
use Rattle.demands.specs.Tables.{Sentence}
use Rattle.demands.specs.Profile.{Demand1For}
use Rattle.demands.specs.Encoding.{DocumentArray}

-- 'some two different data give equal columns on these nodes'
pub record TwoData (p : Profile) (nodes : List ℕ) : Type 0 where
  pub first : List ℕ
  pub second : List ℕ
  pub first_data : Data p first
  pub second_data : Data p second
  pub differ : first ≢ second
  -- the array that each of them gives
  pub first_array : List ℕ
  pub second_array : List ℕ
  pub first_gives : DocumentArray p first first_array
  pub second_gives : DocumentArray p second second_array
  pub alike : joined_columns p nodes first_array ≡ joined_columns p nodes second_array

-- 4: 'node list not k strictly rising numbers below n'. 5: columns and data have kAS bytes each. 10: 'some two
-- different data give equal columns on these nodes'.
unfoldable pub read_sentences : Profile → List ℕ → List ℕ → List ℕ → List Sentence
read_sentences p nodes x y =
    record { refusal = OutOfRange; says = Rising p.n p.k nodes → ⊥ }
    ∷ record {
      refusal = BufferLength;
      says = (length x ≡ p.k * p.a * p.s) × (length y ≡ p.k * p.a * p.s) → ⊥;
    }
    ∷ record { refusal = Ambiguous; says = TwoData p nodes }
    ∷ []

abbrev pub Demand1Read : Numbers → List ℕ → List ℕ → List ℕ → Type 1
Demand1Read p nodes x y =
    Demand1For p (λ p. read_tests p nodes x y) (λ p. read_sentences p nodes x y) ((4, 0) ∷ (5, 0) ∷ (10, 0) ∷ []) y
    (read_of p nodes x y)

-- None of the refusals 1 to 5 and 13 applies.
pub record InDueForm (p : Numbers) (nodes x y : List ℕ) : Type 0 where
  pub profile : Accepted (profile_of p)
  pub list : Rising p.n p.k nodes
  pub columns : length x ≡ p.k * p.a * p.s
  pub output : length y ≡ p.k * p.a * p.s

-- 'the only data whose array has those columns'
pub record OnlyData (p : Profile) (nodes x d : List ℕ) : Type 0 where
  pub are_data : Data p d
  pub array : List ℕ
  pub gives : DocumentArray p d array
  pub columns : joined_columns p nodes array ≡ x
  pub only : (c other : List ℕ) → Data p c → DocumentArray p c other → joined_columns p nodes other ≡ x → c ≡ d

pub record ReadsOnlyData (p : Numbers) (nodes x y : List ℕ) : Type 0 where
  -- 'returns the only data whose array has those columns'; the value that comes with the answer 0 is 0
  pub returns : answer_number (read_of p nodes x y).0 ≡ 0
      → (answer_value (read_of p nodes x y).0 ≡ 0) × OnlyData (profile_of p) nodes x (read_of p nodes x y).1
  -- 'A request in due form is refused exactly when some two different data sets give equal columns on those drives.'
  pub refused : InDueForm p nodes x y → (answer_number (read_of p nodes x y).0 ≡ 10) ↔ TwoData (profile_of p) nodes
  -- It is answered otherwise.
  pub answered : InDueForm p nodes x y → (answer_number (read_of p nodes x y).0 ≡ 0) ↔ (TwoData (profile_of p) nodes → ⊥)
  -- 'whatever bytes the lent columns hold': the answer turns on no byte of the columns or of the output.
  pub bytes_apart : (u v : List ℕ) → length u ≡ length x → length v ≡ length y
      → (read_of p nodes u v).0 ≡ (read_of p nodes x y).0

-- The columns that are lent are bytes.
abbrev pub Demand2Reading : Type 0
Demand2Reading =
    (p : Numbers) (nodes x y : List ℕ) → Bytes x → ReadsOnlyData p nodes x y
