-- 'The survey looks at the sets of k nodes in lexicographic order, starting at a given position (0 is the first), at
-- most B sets.'
--
-- first_in P at c             : the first of the c positions from `at` on for which P holds; at + c if there is none
-- fails_at p pos              : the test whether the set at a position fails
-- looked_at p start most      : how many sets are looked at where none fails: B, or what is left if that is less
-- found_from p start most     : the first failing position among them; the position after them if there is none
-- result_of p start most x    : what a survey that is not refused answers, and what the buffer x holds then
-- survey_tests p start x      : the refusals of a survey past those of a profile, in their order
-- survey_with p start most x  : the survey into x with the profile p: the answer, and what x holds then
-- survey_of p start most x    : the same for any numbers p; `most` is document 01's B
-- survey_answer s             : the survey's answer as that of any call: refused, or answered, with the number of sets
--                              looked at
-- outcome_number s            : which of the three outcomes it is: 1 failing, 2 done, 3 open; 0 where it is refused
-- failing_position s          : the failing position; 0 where there is none
-- looked_in s                 : the number of sets looked at; 0 where it is refused
--
-- From `ksets`: sets n k is the number of sets of k of n nodes, set_at 0 n k pos the set at a position.
use Rattle.std.specs.Prelude.{Bool, not, cond, List, [], ◌∷◌, ℕ, zero, suc, ◌+◌, ◌-◌, min, eqb, ltb, length, Result, Ok, Err}
use Rattle.ksets.specs.Sets.{sets, set_at}
use Rattle.document.specs.declared.Numbers.{Numbers}
use Rattle.document.specs.declared.Profile.{Profile}
use Rattle.document.specs.declared.Refusal.{Refusal}
use Rattle.document.specs.declared.Refusal.TheVariants.{OutOfRange, BufferLength}
use Rattle.document.specs.declared.Surveyed.{Surveyed}
use Rattle.document.specs.declared.Surveyed.TheVariants.{Failing, Done, Open}
use Rattle.document.specs.Refusals.{Answer, Test, tried}
use Rattle.document.specs.Profile.{on_accepted}
use Rattle.document.specs.Reading.{ambiguous}

unfoldable pub first_in : (ℕ → Bool) → ℕ → ℕ → ℕ
first_in P at zero = at
first_in P at (suc c) = cond (P at) at (first_in P (suc at) c)

module _ (p : Profile) where
  open p use {n, k}

  -- The test of 'A set fails if two different data give the same columns on it.'
  unfoldable pub fails_at : ℕ → Bool
  fails_at pos = ambiguous p (set_at 0 n k pos)

  -- 'the smaller of B and what was left'
  abbrev pub looked_at : ℕ → ℕ → ℕ
  looked_at start most = min most (sets n k - start)

  unfoldable pub found_from : ℕ → ℕ → ℕ
  found_from start most = first_in fails_at start (looked_at start most)

  -- 'failing, with position (counted from the first set of all, whatever the start) and the set written out; done;
  -- open. The set goes to a lent buffer of k bytes, which stays as it was in the other two. With it goes the number of
  -- sets looked at: up to and with the first failing one, if it is among the first B from the start, else the smaller
  -- of B and what was left. Without a failing set among those it is done if none is left after that, otherwise open.'
  unfoldable pub result_of : ℕ → ℕ → List ℕ → Result Surveyed Refusal × List ℕ
  result_of start most x =
      let looked : ℕ = looked_at start most in
      let found : ℕ = found_from start most in
      cond (ltb found (start + looked)) (Ok (Failing found (found - start + 1)), set_at 0 n k found)
      (cond (eqb (start + looked) (sets n k)) (Ok (Done looked), x) (Ok (Open looked), x))

-- The refusals of a survey past those of a profile: 4 for a 'survey start above the number of sets', 5 for a set not of
-- k bytes.
unfoldable pub survey_tests : Profile → ℕ → List ℕ → List Test
survey_tests p start x =
    record { refusal = OutOfRange; holds = ltb (sets p.n p.k) start }
    ∷ record { refusal = BufferLength; holds = not (eqb (length x) p.k) }
    ∷ []

unfoldable pub survey_with : Profile → ℕ → ℕ → List ℕ → Result Surveyed Refusal × List ℕ
survey_with p start most x = tried (survey_tests p start x) (λ r. (Err r, x)) (result_of p start most x)

unfoldable pub survey_of : Numbers → ℕ → ℕ → List ℕ → Result Surveyed Refusal × List ℕ
survey_of p start most x = on_accepted p (λ r. (Err r, x)) (λ p. survey_with p start most x)

-- 'On success the answer is 0': what a survey has in common with every other call.
unfoldable pub survey_answer : Result Surveyed Refusal → Answer
survey_answer (Ok (Failing position looked)) = Ok looked
survey_answer (Ok (Done looked)) = Ok looked
survey_answer (Ok (Open looked)) = Ok looked
survey_answer (Err r) = Err r

-- 'with .. the outcome and count described above for a survey'. No outcome is 0, so that none is taken for a refusal's.
unfoldable pub outcome_number : Result Surveyed Refusal → ℕ
outcome_number (Ok (Failing position looked)) = 1
outcome_number (Ok (Done looked)) = 2
outcome_number (Ok (Open looked)) = 3
outcome_number (Err r) = 0

unfoldable pub failing_position : Result Surveyed Refusal → ℕ
failing_position (Ok (Failing position looked)) = position
failing_position (Ok (Done looked)) = 0
failing_position (Ok (Open looked)) = 0
failing_position (Err r) = 0

unfoldable pub looked_in : Result Surveyed Refusal → ℕ
looked_in (Ok (Failing position looked)) = looked
looked_in (Ok (Done looked)) = looked
looked_in (Ok (Open looked)) = looked
looked_in (Err r) = 0
