-- The survey, in document 01's words: when it is refused, what each outcome says of the sets, and what it says of
-- readings.
--
-- survey_sentences p start x      : the lines for a survey from a position on, into x, past those of a profile
-- Demand1Survey p start most x   : a survey refuses as they say. Shown in proofs/Survey.antt: demand_1_survey
-- Fails p pos                    : the set at a position fails
-- NoneFails p from to            : no set from the position `from` on and before `to` fails
-- Tells p start most x outcome   : what the outcome of a survey says, by its three cases
-- joined_outcome first second     : the outcome of two surveys together: the second goes on where the first stopped
-- SurveyTells                    : a survey that is not refused says what holds of the sets
-- TestOfFailing                  : the survey's test of a set is true exactly if the set fails
-- FailsInReading                 : a set fails exactly if readings from it are refused with 10
-- AllSets n k                    : the positions below the number of sets give the sets of k nodes, each once, in
--                                  lexicographic order
-- DoneReadsAll                   : 'done' from start 0 means that every set of k nodes can be read
-- SurveysJoin                    : surveys of adjoining ranges join into one
-- SurveyDemands                  : these, from SurveyTells on. Shown in proofs/Survey.antt: survey_demands
--
-- The words it uses:
-- set_at 0 n k pos       : the set at a position, as a list of its nodes
-- rank_of 0 n nodes      : the position of a set of the nodes below n
-- next_of n nodes        : the next set of the nodes below n
-- sets n k              : the number of sets of k of n nodes
-- Rising n k nodes      : nodes are k strictly rising numbers below n
-- Smaller u v           : u stands before v in lexicographic order
-- TwoData p nodes       : some two different data give equal columns on the named nodes
use Rattle.std.specs.Prelude.{Result, Ok, Err, ◌≡◌, ◌↔◌, ◌≢◌, List, [], ◌∷◌, ℕ, ◌+◌, ◌≤◌, ◌<◌, length}
use Rattle.ksets.specs.Sets.{sets, set_at, rank_of, Rising, Smaller, next_of}
use Rattle.document.specs.declared.Numbers.{Numbers}
use Rattle.document.specs.declared.Profile.{Profile}
use Rattle.document.specs.declared.Refusal.{Refusal}
use Rattle.document.specs.declared.Surveyed.{Surveyed}
use Rattle.document.specs.declared.Surveyed.TheVariants.{Failing, Done, Open}
use Rattle.document.specs.declared.Refusal.TheVariants.{OutOfRange, BufferLength}
use Rattle.document.specs.Refusals.{answer_number, Decides}
use Rattle.document.specs.Profile.{Accepted, profile_of}
use Rattle.document.specs.Reading.{read_of}
use Rattle.document.specs.Survey.{fails_at, survey_tests, survey_answer, survey_of}
use Rattle.demands.specs.Tables.{Sentence}
use Rattle.demands.specs.Profile.{Demand1For}
use Rattle.demands.specs.Reading.{TwoData, InDueForm}

-- 4: 'survey start above the number of sets'. 5: 'a lent buffer of k bytes'.
unfoldable pub survey_sentences : Profile → ℕ → List ℕ → List Sentence
survey_sentences p start x =
    record { refusal = OutOfRange; says = sets p.n p.k < start }
    ∷ record { refusal = BufferLength; says = length x ≢ p.k }
    ∷ []

-- The answer of a survey is told as that of any call: refused or not.
abbrev pub Demand1Survey : Numbers → ℕ → ℕ → List ℕ → Type 1
Demand1Survey p start most x =
    Demand1For p (λ p. survey_tests p start x) (λ p. survey_sentences p start x) ((4, 0) ∷ (5, 0) ∷ []) x
    (survey_answer (survey_of p start most x).0, (survey_of p start most x).1)

module _ (p : Profile) where
  open p use {n, k}

  -- 'A set fails if two different data give the same columns on it.'
  abbrev pub Fails : ℕ → Type 0
  Fails pos = TwoData p (set_at 0 n k pos)

  abbrev pub NoneFails : ℕ → ℕ → Type 0
  NoneFails from to = (pos : ℕ) → from ≤ pos → pos < to → Fails pos → ⊥

  -- What the answer, and the buffer after it, say of a survey of at most `most` sets from `start` on, lent x.
  pub data Tells (start most : ℕ) (x : List ℕ) : Result Surveyed Refusal × List ℕ → Type 0 where
    -- 'failing, with position (counted from the first set of all, whatever the start) and the set written out'; 'up to
    -- and with the first failing one, if it is among the first B from the start'
    failing : {pos looked : ℕ} → start ≤ pos → pos < sets n k → Fails pos → NoneFails start pos
        → start + looked ≡ pos + 1 → looked ≤ most → Tells start most x (Ok (Failing pos looked), set_at 0 n k pos)
    -- 'it is done if none is left after that': all that was left was looked at
    done : {looked : ℕ} → NoneFails start (sets n k) → start + looked ≡ sets n k → looked ≤ most
        → Tells start most x (Ok (Done looked), x)
    -- 'otherwise open': B sets were looked at, and some are left
    left_open : NoneFails start (start + most) → start + most < sets n k → Tells start most x (Ok (Open most), x)

-- A survey that is not refused, for all numbers and bytes.
abbrev pub SurveyTells : Type 0
SurveyTells =
    (p : Numbers) (start most : ℕ) (x : List ℕ) → answer_number (survey_answer (survey_of p start most x).0) ≡ 0
    → Tells (profile_of p) start most x (survey_of p start most x)

-- The test that decides a set is equivalent to its sentence.
abbrev pub TestOfFailing : Type 0
TestOfFailing =
    (p : Profile) → Accepted p → (pos : ℕ) → pos < sets p.n p.k → Decides (fails_at p pos) (Fails p pos)

-- A set fails exactly if a reading from it, in due form, is refused with 10.
abbrev pub FailsInReading : Type 0
FailsInReading =
    (p : Numbers) (pos : ℕ) (x y : List ℕ) → InDueForm p (set_at 0 p.n p.k pos) x y
    → Fails (profile_of p) pos ↔ (answer_number (read_of p (set_at 0 p.n p.k pos) x y).0 ≡ 10)

-- 'the sets of k nodes in lexicographic order, starting at a given position (0 is the first)'
pub record AllSets (n k : ℕ) : Type 0 where
  pub rises : (pos : ℕ) → pos < sets n k → Rising n k (set_at 0 n k pos)
  pub ordered : (pos late : ℕ) → pos < late → late < sets n k → Smaller (set_at 0 n k pos) (set_at 0 n k late)
  pub ranked : (pos : ℕ) → pos < sets n k → rank_of 0 n (set_at 0 n k pos) ≡ pos
  pub every : (nodes : List ℕ) → Rising n k nodes
      → (rank_of 0 n nodes < sets n k) × (set_at 0 n k (rank_of 0 n nodes) ≡ nodes)
  pub next : (pos : ℕ) → pos + 1 < sets n k → next_of n (set_at 0 n k pos) ≡ set_at 0 n k (pos + 1)

-- 'done' from the first set on: each request in due form is answered.
abbrev pub DoneReadsAll : Type 0
DoneReadsAll =
    (p : Numbers) (most looked : ℕ) (set : List ℕ) → (survey_of p 0 most set).0 ≡ Ok (Done looked)
    → (nodes x y : List ℕ) → InDueForm p nodes x y → answer_number (read_of p nodes x y).0 ≡ 0

-- Where the first survey was open the second goes on, and the numbers of sets looked at add up.
abbrev pub joined_outcome : Result Surveyed Refusal × List ℕ → Result Surveyed Refusal × List ℕ → Result Surveyed Refusal × List ℕ
joined_outcome (Ok (Failing pos looked), x) second = (Ok (Failing pos looked), x)
joined_outcome (Ok (Done looked), x) second = (Ok (Done looked), x)
joined_outcome (Err r, x) second = (Err r, x)
joined_outcome (Ok (Open looked), x) (Ok (Failing pos more), y) = (Ok (Failing pos (looked + more)), y)
joined_outcome (Ok (Open looked), x) (Ok (Done more), y) = (Ok (Done (looked + more)), y)
joined_outcome (Ok (Open looked), x) (Ok (Open more), y) = (Ok (Open (looked + more)), y)
joined_outcome (Ok (Open looked), x) (Err r, y) = (Err r, y)

-- Surveys of two ranges, one after the other, are one survey. The second is lent x too: it matters only where the
-- first was open, and then the first left x as it was.
abbrev pub SurveysJoin : Type 0
SurveysJoin =
    (p : Numbers) (start most more : ℕ) (x : List ℕ)
    → survey_of p start (most + more) x ≡ joined_outcome (survey_of p start most x) (survey_of p (start + most) more x)

pub record SurveyDemands : Type 0 where
  pub tells : SurveyTells
  pub test : TestOfFailing
  pub in_reading : FailsInReading
  pub all_sets : (n k : ℕ) → AllSets n k
  pub done_reads : DoneReadsAll
  pub join : SurveysJoin
