-- 'Sample numbers (marked M: to be shown)': the marked cases of document 01 in one list, shown by one claim about it.
--
-- Case                : what a definition gives, and what document 01 says it gives
-- profile t           : the numbers (4,2,2), S = 1, edition 1, with the coupling constant t
-- outcome o           : an answer and a lent buffer as one list: number, value, bytes
-- outer_columns o      : the same with the columns of nodes 0 and 3 alone
-- bundle f fields     : a bundle for the lost node f, scenario 7, run 0, with these fields 03
-- strip j i v         : a field 03 for node j, row i, scenario 7, run 0 with the strip v of one byte
-- lent m              : a buffer of m bytes that is lent
-- rebuilt f fields    : the outcome of a rebuild of node f from such a bundle
-- surveyed t start B  : the outcome of a survey as one list: number, outcome (1 failing, 2 done, 3 open), position,
--                       sets looked at, bytes
-- marked              : the cases
-- shown               : what the cases give is what document 01 says
use Rattle.std.specs.Prelude.{◌≡◌, refl, List, [], ◌∷◌, ◌++◌, map, ℕ, take, drop, replicate, option_to_list, Result}
use Rattle.std.proofs.Math.Decide.{ℕ_discrete, dec_lt}
use Rattle.lists.specs.Listed.{listed, patched, rising, along, all}
use Rattle.lists.specs.Put.{slice, same}
use Rattle.fields.specs.Fields.{two_bytes, four_bytes, opening}
use Rattle.gf256.specs.Field.{◌⊕◌, ◌⊗◌, double, bit_product, squares, inverse, inverted_of}
use Rattle.algebra.specs.Sum.{sum}
use Rattle.algebra.specs.Weight.{weight}
use Rattle.strips.specs.Strips.{added_scaled}
use Rattle.square.specs.Steps.{filled, stepped, lifted, multiplier_at, pivot_in, unit_line, unit_square}
use Rattle.square.specs.Elimination.{end_from}
use Rattle.ksets.specs.Sets.{sets, set_at}
use Rattle.document.specs.declared.Numbers.{Numbers}
use Rattle.document.specs.declared.Refusal.{Refusal}
use Rattle.document.specs.declared.Surveyed.{Surveyed}
use Rattle.document.specs.Refusals.{tried, number_of, index_of, answer_number, answer_value, Answer}
use Rattle.algebra.specs.Coupling.{base, factor}
use Rattle.algebra.specs.Rebuild.{row_symbol, other_at, rebuilt_at}
use Rattle.document.specs.Places.{same_place}
use Rattle.document.specs.Message.{
  recording_bytes,
  edition_bytes,
  profile_content,
  place_in,
  recording_in,
  opened,
  placed,
  fresh,
  strip_field_start,
  formed,
  headed,
  message_tests,
}
use Rattle.document.specs.Bundle.{lost_content, bundle_tests}
use Rattle.document.specs.Rebuild.{position_of, given_at, rebuilt_over, rebuilt_of, rebuild_tests, rebuild_with, rebuild_of}
use Rattle.document.specs.Profile.{
  shape_accepted,
  constant_accepted,
  strip_accepted,
  edition_accepted,
  profile_tests,
  on_accepted,
}
use Rattle.document.specs.ByteField.{bytes, byte, number}
use Rattle.document.specs.Encoding.{
  start,
  byte_at,
  base_at,
  constant_of,
  coupled_at,
  laid_out,
  column_of,
  encoded,
  encode_tests,
  encode_with,
  encode_of,
}
use Rattle.document.specs.Plan.{
  is_own,
  is_diagonal,
  is_off_diagonal,
  pairs_at,
  walk_start,
  planned,
  planned_at,
  plan_bytes,
  plan_tests,
  plan_with,
  plan_of,
}
use Rattle.document.specs.Reading.{
  list_accepted,
  coefficient_at,
  coefficient_line,
  square_of,
  elimination_of,
  ambiguous,
  read_tests,
  read_with,
  read_of,
}
use Rattle.document.specs.Survey.{
  first_in,
  fails_at,
  found_from,
  result_of,
  survey_tests,
  survey_with,
  survey_of,
  survey_answer,
  outcome_number,
  failing_position,
  looked_in,
}

pub record Case : Type 0 where
  pub gives : List ℕ
  pub says : List ℕ

-- 'All with (4,2,2), S = 1', and a coupling constant; in edition 1.
abbrev pub profile : ℕ → Numbers
profile t = record { n = 4; k = 2; a = 2; t = t; s = 1; edition = 1 }

abbrev joined : List (List ℕ) → List ℕ
joined [] = []
joined (x ∷ xs) = x ++ joined xs

-- An answer and a lent buffer, written as one list: number, value, bytes.
abbrev pub outcome : Answer × List ℕ → List ℕ
outcome (answer, x) = answer_number answer ∷ answer_value answer ∷ x

-- The same with the columns of nodes 0 and 3 alone.
abbrev pub outer_columns : Answer × List ℕ → List ℕ
outer_columns (answer, x) = outcome (answer, take 2 x ++ drop 6 x)

-- A bundle for (4,2,2), t = 2, S = 1, scenario 7 and run 0: the lost node, and a field 03 of these bytes each.
abbrev pub bundle : ℕ → List (List ℕ) → List ℕ
bundle f fields =
    0x01 ∷ 0x00 ∷ 0x06 ∷ 0x04 ∷ 0x02 ∷ 0x02 ∷ 0x02 ∷ 0x00 ∷ 0x01
    ∷ 0x02 ∷ 0x00 ∷ 0x07 ∷ f ∷ 0x00 ∷ 0x00 ∷ 0x00 ∷ 0x07 ∷ 0x00 ∷ 0x00
    ∷ joined fields

-- A field 03 for node j, row i, scenario 7 and run 0 with a strip of one byte.
abbrev pub strip : ℕ → ℕ → ℕ → List ℕ
strip j i v = 0x03 ∷ 0x00 ∷ 0x09 ∷ j ∷ i ∷ 0x00 ∷ 0x00 ∷ 0x00 ∷ 0x07 ∷ 0x00 ∷ 0x00 ∷ v ∷ []

-- A buffer of m bytes that is lent, with something in it.
unfoldable pub lent : ℕ → List ℕ
lent m = replicate m 0xFF

-- A rebuild from such a bundle.
abbrev pub rebuilt : ℕ → List (List ℕ) → List ℕ
rebuilt f fields = outcome (rebuild_of (profile 2) f (record { scenario = 7; run = 0 }) (bundle f fields) (lent 2))

-- A survey of the profile with the coupling constant t.
abbrev pub surveyed : ℕ → ℕ → ℕ → List ℕ
surveyed t start B =
    let o : Result Surveyed Refusal × List ℕ = survey_of (profile t) start B (lent 2) in
    answer_number (survey_answer o.0) ∷ outcome_number o.0 ∷ failing_position o.0 ∷ looked_in o.0 ∷ o.1

-- M1 to M12, in document 01's order.
unfoldable pub marked : List Case
marked =
    record { gives = 128 ⊗ 128 ∷ []; says = 19 ∷ [] }
    ∷ record { gives = option_to_list (inverted_of 2); says = 142 ∷ [] }
    ∷ record { gives = 3 ⊗ 3 ∷ []; says = 5 ∷ [] }
    ∷ record {
      gives = outcome (encode_of (profile 2) (0x01 ∷ 0x00 ∷ 0x02 ∷ 0x04 ∷ []) (lent 8));
      says = 0 ∷ 0 ∷ 0x01 ∷ 0x04 ∷ 0x02 ∷ 0x04 ∷ 0x07 ∷ 0x00 ∷ 0x0C ∷ 0x0C ∷ [];
    }
    ∷ record {
      gives = outcome (plan_of (profile 2) 0 (lent 9));
      says = 0 ∷ 4 ∷ 1 ∷ 0 ∷ 2 ∷ 0 ∷ 3 ∷ 0 ∷ 2 ∷ 1 ∷ 0xFF ∷ [];
    }
    ∷ record {
      gives = outcome (plan_of (profile 2) 3 (lent 9));
      says = 0 ∷ 4 ∷ 2 ∷ 1 ∷ 1 ∷ 1 ∷ 0 ∷ 1 ∷ 1 ∷ 0 ∷ 0xFF ∷ [];
    }
    ∷ record {
      gives = rebuilt 0 (strip 1 0 0x02 ∷ strip 2 0 0x07 ∷ strip 3 0 0x0C ∷ strip 2 1 0x00 ∷ []);
      says = 0 ∷ 0 ∷ 0x01 ∷ 0x04 ∷ [];
    }
    ∷ record {
      gives = rebuilt 3 (strip 2 1 0x00 ∷ strip 1 1 0x04 ∷ strip 0 1 0x04 ∷ strip 1 0 0x02 ∷ []);
      says = 0 ∷ 0 ∷ 0x0C ∷ 0x0C ∷ [];
    }
    ∷ record {
      gives = outer_columns (encode_of (profile 5) (0x00 ∷ 0x05 ∷ 0x01 ∷ 0x06 ∷ []) (lent 8));
      says = 0 ∷ 0 ∷ 0x00 ∷ 0x00 ∷ 0x00 ∷ 0x00 ∷ [];
    }
    ∷ record {
      gives = outcome (read_of (profile 5) (0 ∷ 3 ∷ []) (0x00 ∷ 0x00 ∷ 0x00 ∷ 0x00 ∷ []) (lent 4));
      says = 10 ∷ 0 ∷ 0xFF ∷ 0xFF ∷ 0xFF ∷ 0xFF ∷ [];
    }
    ∷ record { gives = surveyed 5 0 6; says = 0 ∷ 1 ∷ 2 ∷ 3 ∷ 0x00 ∷ 0x03 ∷ [] }
    ∷ record { gives = surveyed 2 0 6; says = 0 ∷ 2 ∷ 0 ∷ 6 ∷ 0xFF ∷ 0xFF ∷ [] }
    ∷ record { gives = surveyed 2 0 2; says = 0 ∷ 3 ∷ 0 ∷ 2 ∷ 0xFF ∷ 0xFF ∷ [] }
    ∷ record { gives = surveyed 2 0 0; says = 0 ∷ 3 ∷ 0 ∷ 0 ∷ 0xFF ∷ 0xFF ∷ [] }
    ∷ record { gives = surveyed 2 6 0; says = 0 ∷ 2 ∷ 0 ∷ 0 ∷ 0xFF ∷ 0xFF ∷ [] }
    ∷ []

-- Each marked case gives what document 01 says.
pub shown : map (λ c. c.gives) marked ≡ map (λ c. c.says) marked
unfolding marked lent encode_of encode_with encode_tests on_accepted profile_tests shape_accepted constant_accepted
    strip_accepted edition_accepted tried answer_number answer_value encoded laid_out coupled_at constant_of base_at byte_at
    start listed sum weight byte number bytes ◌⊕◌ ◌⊗◌ double bit_product squares inverse inverted_of ℕ_discrete dec_lt
    plan_of plan_with plan_tests planned pairs_at plan_bytes is_own is_diagonal is_off_diagonal rising along walk_start
    rebuild_of rebuild_with rebuild_tests bundle_tests message_tests opened formed headed placed fresh place_in
    recording_in strip_field_start planned_at slice same all opening two_bytes four_bytes profile_content edition_bytes
    lost_content recording_bytes rebuilt_of rebuilt_over given_at position_of same_place column_of rebuilt_at row_symbol
    other_at base factor read_of read_with read_tests list_accepted number_of ambiguous index_of elimination_of square_of
    coefficient_line coefficient_at end_from pivot_in lifted stepped filled multiplier_at added_scaled patched unit_square
    unit_line survey_of survey_with survey_tests result_of found_from fails_at first_in sets set_at survey_answer
    outcome_number failing_position looked_in
shown = refl
