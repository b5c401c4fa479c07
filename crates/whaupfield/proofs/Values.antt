-- The values of answers are small enough to be packed, and are given back from what was packed.
use mathlib.Core.Path.{◌≡◌, refl, ap}
use Prim.Native.Nat.{ℕ, ◌^◌, ◌≤◌, ◌<◌}
use native.Mathlib.Omega.{arith}
use lib.Dec.{lit<}
use Rattle.std.specs.Prelude.{Result, Ok, Err}
use Rattle.document.specs.declared.Refusal.{Refusal}
use Rattle.document.specs.declared.Surveyed.{Surveyed}
use Rattle.document.specs.declared.Surveyed.TheVariants.{Failing, Done, Open}
use Rattle.document.specs.Refusals.{answer_number, answer_value, Answer}
use Rattle.document.specs.Bundle.{longest_bundle}
use Rattle.document.specs.Survey.{survey_answer, outcome_number, failing_position}
use Rattle.document.proofs.Refusals.{number_bound}
use Rattle.document.proofs.Values.{survey_counted}
use Rattle.whaupfield.specs.Packed.{
  packed,
  packed_survey,
  packed_inverse,
  SurveyFits,
  GivenBack,
  SurveyGivenBack,
  SurveysGivenBack,
  InverseGivenBack,
}

-- the answer of a call, from what its contract says: no value is greater than the length of a bundle
pub packable : {X : Type 0} (answer : Answer) (x : X) (o : Answer × X) → (answer, x) ≡ o
    → (m : ℕ) → m ≤ longest_bundle → answer_value o.0 ≤ m → answer_value answer < 2 ^ 55
packable answer x o e m h v = omega (arith, ap (λ (u : Answer × _). answer_value u.0) e)

pub survey_fits : SurveyFits
survey_fits p start most x =
    let c = survey_counted p start most x in (omega (arith, c.position), omega (arith, c.looked))

-- ---- what was packed is given back
number_small : (answer : Answer) → answer_number answer < 256
unfolding answer_number
number_small (Ok v) = lit< tt
number_small (Err r) = omega (arith, number_bound r)

pub given_back : GivenBack
unfolding packed
given_back answer =
    let h : answer_number answer < 256 = number_small answer in (omega arith, omega arith)

outcome_small : (s : Result Surveyed Refusal) → outcome_number s < 4
unfolding outcome_number
outcome_small (Ok (Failing position looked)) = lit< tt
outcome_small (Ok (Done looked)) = lit< tt
outcome_small (Ok (Open looked)) = lit< tt
outcome_small (Err r) = lit< tt

survey_given_back : (s : Result Surveyed Refusal) → failing_position s < 2 ^ 22 → SurveyGivenBack s
unfolding packed_survey
survey_given_back s position =
    let number : answer_number (survey_answer s) < 256 = number_small (survey_answer s) in
    let outcome : outcome_number s < 4 = outcome_small s in
    record { number = omega arith; outcome = omega arith; position = omega arith; looked = omega arith }

pub inverse_given_back : InverseGivenBack
unfolding packed_inverse
inverse_given_back = record {
  byte = λ b. (omega arith, omega arith);
  none = (refl, refl);
  no_refusal = λ r e. omega (arith, number_bound r);
}

pub surveys_given_back : SurveysGivenBack
surveys_given_back p start most x = survey_given_back _ (survey_fits p start most x).0
