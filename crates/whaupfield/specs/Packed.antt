-- An answer as one number for a C host.
--
-- packed answer   : the answer's number in the low byte, its value above it
-- packed_with pair : an outcome with its answer packed
-- outcome_packed outcome position looked : the value of a survey's answer: the outcome in two bits, the position and the
--                    number of sets looked at in 22 bits each
-- packed_survey s   : a survey's answer: the number in the low byte, its value above it; with a refusal the value is 0
-- packed_survey_with pair : a survey's outcome with its answer packed
-- no_inverse        : the number that says that a byte has no inverse: WHAUPFIELD_NO_INVERSE
-- packed_inverse i  : the inverse of a byte: 0 in the low byte and the inverse above it, or that number alone
-- SurveyFits       : no survey's position or number of sets needs more than 22 bits. Shown in proofs/Values.antt:
--                    survey_fits
--
-- What the header's macros take out of such a number w:
-- unpacked_number w   : WHAUPFIELD_NUMBER
-- unpacked_value w    : WHAUPFIELD_VALUE
-- unpacked_outcome w  : WHAUPFIELD_OUTCOME
-- unpacked_position w : WHAUPFIELD_POSITION
-- unpacked_looked w   : WHAUPFIELD_LOOKED
-- GivenBack          : they give number and value of every answer back. Shown in proofs/Values.antt: given_back
-- SurveyGivenBack s  : they give number, outcome, position and sets looked at of the survey's answer s back
-- SurveysGivenBack   : so they do of every answer that a survey can give. Shown in proofs/Values.antt:
--                      surveys_given_back
-- InverseGivenBack   : they give the inverse back, and that there is none, whose number is that of no refusal. Shown in
--                      proofs/Values.antt: inverse_given_back
use Rattle.std.specs.Prelude.{◌≡◌, ◌≢◌, List, Option, None, Some, Result, ℕ, ◌+◌, ◌*◌, ◌/◌, ◌%◌, ◌^◌, ◌<◌}
use Rattle.document.specs.declared.Numbers.{Numbers}
use Rattle.document.specs.declared.Refusal.{Refusal}
use Rattle.document.specs.declared.Surveyed.{Surveyed}
use Rattle.document.specs.Refusals.{number_of, answer_number, answer_value, Answer}
use Rattle.document.specs.Survey.{survey_of, survey_answer, outcome_number, failing_position, looked_in}

unfoldable pub packed : Answer → ℕ
packed answer = answer_number answer + 256 * answer_value answer

-- The same beside what a lent buffer holds.
abbrev pub packed_with : {X : Type 0} → Answer × X → ℕ × X
packed_with (answer, x) = (packed answer, x)

abbrev pub outcome_packed : ℕ → ℕ → ℕ → ℕ
outcome_packed outcome position looked = outcome + 4 * (position + 2 ^ 22 * looked)

unfoldable pub packed_survey : Result Surveyed Refusal → ℕ
packed_survey s =
    answer_number (survey_answer s)
    + 256 * outcome_packed (outcome_number s) (failing_position s) (looked_in s)

abbrev pub packed_survey_with : {X : Type 0} → Result Surveyed Refusal × X → ℕ × X
packed_survey_with (answer, x) = (packed_survey answer, x)

-- Document 02, K10: 'say there is none for zero'. It leaves the number for C to us. No refusal is meant by it, and no
-- refusal has it.
abbrev pub no_inverse : ℕ
no_inverse = 255

unfoldable pub packed_inverse : Option ℕ → ℕ
packed_inverse (Some b) = 256 * b
packed_inverse None = no_inverse

abbrev pub SurveyFits : Type 0
SurveyFits =
    (p : Numbers) (start most : ℕ) (x : List ℕ)
    → (failing_position (survey_of p start most x).0 < 2 ^ 22) × (looked_in (survey_of p start most x).0 < 2 ^ 22)

-- (w) & 0xFF
abbrev pub unpacked_number : ℕ → ℕ
unpacked_number w = w % 256

-- (w) >> 8
abbrev pub unpacked_value : ℕ → ℕ
unpacked_value w = w / 256

-- (w) >> 8 & 3
abbrev pub unpacked_outcome : ℕ → ℕ
unpacked_outcome w = w / 2 ^ 8 % 4

-- (w) >> 10 & 0x3FFFFF
abbrev pub unpacked_position : ℕ → ℕ
unpacked_position w = w / 2 ^ 10 % 2 ^ 22

-- (w) >> 32
abbrev pub unpacked_looked : ℕ → ℕ
unpacked_looked w = w / 2 ^ 32

-- So nothing is lost by packing.
abbrev pub GivenBack : Type 0
GivenBack =
    (answer : Answer)
    → (unpacked_number (packed answer) ≡ answer_number answer) × (unpacked_value (packed answer) ≡ answer_value answer)

pub record SurveyGivenBack (s : Result Surveyed Refusal) : Type 0 where
  pub number : unpacked_number (packed_survey s) ≡ answer_number (survey_answer s)
  pub outcome : unpacked_outcome (packed_survey s) ≡ outcome_number s
  pub position : unpacked_position (packed_survey s) ≡ failing_position s
  pub looked : unpacked_looked (packed_survey s) ≡ looked_in s

abbrev pub SurveysGivenBack : Type 0
SurveysGivenBack = (p : Numbers) (start most : ℕ) (x : List ℕ) → SurveyGivenBack (survey_of p start most x).0

pub record InverseGivenBack : Type 0 where
  pub byte : (b : ℕ) → (unpacked_number (packed_inverse (Some b)) ≡ 0) × (unpacked_value (packed_inverse (Some b)) ≡ b)
  pub none : (unpacked_number (packed_inverse None) ≡ no_inverse) × (unpacked_value (packed_inverse None) ≡ 0)
  pub no_refusal : (r : Refusal) → number_of r ≢ no_inverse
