-- K6's plans and its refusal, worked out by hand from its sentences: what the definitions give and what is due, shown
-- by one claim, as in Marked.antt. With (9,4,3) the editions read at other nodes, with the others in another order.
--
-- numbers n k a edition : the numbers (n,k,A), t = 2, S = 1, in an edition
-- plans                 : plans that tell the editions apart, and numbers that are no edition
-- plans_shown           : what they give is what is due
use Rattle.std.specs.Prelude.{◌≡◌, refl, List, [], ◌∷◌, map, ℕ}
use Rattle.lists.specs.Listed.{rising, along}
use Rattle.document.specs.declared.Numbers.{Numbers}
use Rattle.document.specs.Refusals.{tried, number_of, index_of, answer_number, answer_value}
use Rattle.document.specs.Profile.{
  shape_accepted,
  constant_accepted,
  strip_accepted,
  edition_accepted,
  profile_tests,
  on_accepted,
}
use Rattle.document.specs.Plan.{
  is_own,
  is_diagonal,
  is_off_diagonal,
  pairs_at,
  walk_start,
  planned,
  plan_bytes,
  plan_tests,
  plan_with,
  plan_of,
}
use Rattle.samples.specs.Marked.{Case, outcome, lent}

abbrev numbers : ℕ → ℕ → ℕ → ℕ → Numbers
numbers n k a edition = record { n = n; k = k; a = a; t = 2; s = 1; edition = edition }

unfoldable pub plans : List Case
plans =
    record {
      gives = outcome (plan_of (numbers 6 2 2 1) 2 (lent 6));
      says = 0 ∷ 3 ∷ 3 ∷ 0 ∷ 0 ∷ 0 ∷ 4 ∷ 0 ∷ [];
    }
    ∷ record {
      gives = outcome (plan_of (numbers 6 2 2 2) 2 (lent 6));
      says = 0 ∷ 3 ∷ 3 ∷ 0 ∷ 4 ∷ 0 ∷ 0 ∷ 0 ∷ [];
    }
    ∷ record {
      gives = outcome (plan_of (numbers 9 6 3 2) 4 (lent 24));
      says = 0 ∷ 12
          ∷ 3 ∷ 1 ∷ 5 ∷ 1 ∷ 7 ∷ 1 ∷ 1 ∷ 1 ∷ 6 ∷ 1 ∷ 7 ∷ 0 ∷ 8 ∷ 1 ∷ 7 ∷ 2 ∷ 0 ∷ 1 ∷ 1 ∷ 0 ∷ 2 ∷ 1 ∷ 1 ∷ 2 ∷ [];
    }
    ∷ record {
      gives = outcome (plan_of (numbers 9 4 3 1) 4 (lent 16));
      says = 0 ∷ 8 ∷ 3 ∷ 1 ∷ 5 ∷ 1 ∷ 1 ∷ 1 ∷ 7 ∷ 1 ∷ 0 ∷ 1 ∷ 1 ∷ 0 ∷ 2 ∷ 1 ∷ 1 ∷ 2 ∷ [];
    }
    ∷ record {
      gives = outcome (plan_of (numbers 9 4 3 2) 4 (lent 16));
      says = 0 ∷ 8 ∷ 3 ∷ 1 ∷ 5 ∷ 1 ∷ 7 ∷ 1 ∷ 1 ∷ 1 ∷ 6 ∷ 1 ∷ 7 ∷ 0 ∷ 8 ∷ 1 ∷ 7 ∷ 2 ∷ [];
    }
    ∷ record { gives = outcome (plan_of (numbers 6 2 2 0) 9 (lent 1)); says = 13 ∷ 0 ∷ 0xFF ∷ [] }
    ∷ record { gives = outcome (plan_of (numbers 6 2 2 3) 9 (lent 1)); says = 13 ∷ 0 ∷ 0xFF ∷ [] }
    ∷ record { gives = outcome (plan_of (numbers 6 2 2 257) 9 (lent 1)); says = 13 ∷ 0 ∷ 0xFF ∷ [] }
    ∷ []

pub plans_shown : map (λ c. c.gives) plans ≡ map (λ c. c.says) plans
unfolding plans lent on_accepted profile_tests shape_accepted constant_accepted strip_accepted edition_accepted tried
    answer_number answer_value number_of index_of plan_of plan_with plan_tests planned pairs_at plan_bytes is_own is_diagonal
    is_off_diagonal rising along walk_start
plans_shown = refl
