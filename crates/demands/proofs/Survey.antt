-- The survey: demand 1, what each outcome says is so, 'done' from the first set on means that every set can be read,
-- and surveys of adjoining ranges join into one.
use Rattle.std.specs.Prelude.{Result, Ok, Err}
use mathlib.Core.Path.{◌≡◌, refl, sym, ap, subst, ◌∙◌}
use mathlib.Core.Logic.{◌⊎◌, inl, inr}
use mathlib.Core.List.{List, ◌++◌}
use Prim.Native.Nat.{ℕ, ◌+◌, ◌≤◌, ◌<◌}
use native.Mathlib.Omega.{arith}
use lib.ListN.{length}
use Rattle.ksets.specs.Sets.{sets, set_at, rank_of}
use Rattle.ksets.proofs.Ranked.{set_rising, rank_set, set_rank}
use Rattle.ksets.proofs.Following.{next_set}
use Rattle.ksets.proofs.Order.{set_order}
use Rattle.document.specs.declared.Numbers.{Numbers}
use Rattle.document.specs.declared.Profile.{Profile}
use Rattle.document.specs.declared.Refusal.{Refusal}
use Rattle.document.specs.declared.Refusal.TheVariants.{OutOfRange, BufferLength}
use Rattle.document.specs.declared.Surveyed.{Surveyed}
use Rattle.document.specs.declared.Surveyed.TheVariants.{Done}
use Rattle.document.specs.Refusals.{number_of, index_of, answer_number, answer_value, tried, Answer}
use Rattle.document.specs.Profile.{Accepted, profile_tests, profile_of, on_accepted}
use Rattle.document.specs.Survey.{result_of, survey_tests, survey_with, survey_of, survey_answer}
use Rattle.document.proofs.Decides.{decides_le, decides_lt, decides_eq, decides_not, decided}
use Rattle.document.proofs.Accepts.{one_list, on_accepted_map, on_accepted_same}
use Rattle.document.proofs.Tried.{tried_map}
use Rattle.document.proofs.Surveys.{by_result}
use Rattle.document.proofs.Refusals.{never_zero}
use Rattle.demands.specs.Tables.{Sentence, Decided, none, line}
use Rattle.demands.specs.Profile.{profile_sentences}
use Rattle.demands.specs.Reading.{TwoData}
use Rattle.demands.specs.Survey.{
  survey_sentences,
  Demand1Survey,
  NoneFails,
  Tells,
  failing,
  done,
  left_open,
  joined_outcome,
  SurveyTells,
  FailsInReading,
  AllSets,
  DoneReadsAll,
  SurveysJoin,
  SurveyDemands,
}
use Rattle.demands.proofs.Tables.{Holds, by_name, held, line_by_line, only_append, FirstOrNone, first_or_none}
use Rattle.demands.proofs.Calls.{tried_stops, tried_through}
use Rattle.demands.proofs.Profile.{accepted_none, past_profile, profile_decided, call_for}
use Rattle.demands.proofs.Reading.{read_refused, read_answered}
use Rattle.demands.proofs.Results.{set_decided, result_tells, join_failing, join_done, join_open}

-- ---- the call: where it is not refused its answer is done, with the number of sets looked at
survey_decided : (p : Profile) (start : ℕ) (x : List ℕ) → Decided (survey_tests p start x) (survey_sentences p start x)
unfolding survey_tests survey_sentences
survey_decided p start x =
    line refl (decides_lt (sets p.n p.k) start)
    (λ h. line refl (decides_not _ (decides_eq (length x) p.k)) (λ l. none))

module _ (p : Numbers) (start most : ℕ) (x : List ℕ) where
  abbrev answer_of : Result Surveyed Refusal × List ℕ → Answer × List ℕ
  answer_of s = (survey_answer s.0, s.1)

  abbrev looked_after : Profile → ℕ
  looked_after p = answer_value (survey_answer (result_of p start most x).0)

  told : answer_of (survey_of p start most x)
      ≡ on_accepted p (λ r. (Err r, x))
      (λ p. tried (survey_tests p start x) (λ r. (Err r, x))
      (Ok (looked_after p), (result_of p start most x).1))
  unfolding survey_of survey_with survey_answer answer_value
  told =
      on_accepted_map answer_of p (λ r. (Err r, x)) (λ p. survey_with p start most x)
      ∙ on_accepted_same p (λ r. (Err r, x)) _ _
      (λ acc. tried_map answer_of (survey_tests (profile_of p) start x) _ (result_of (profile_of p) start most x)
      ∙ ap (λ (a : Answer). tried (survey_tests (profile_of p) start x) (λ r. (Err r, x))
      (a, (result_of (profile_of p) start most x).1)) is_done)
    where
      is_done : survey_answer (result_of (profile_of p) start most x).0 ≡ Ok (looked_after (profile_of p))
      is_done =
          by_result (profile_of p) start most x
          (λ s. survey_answer s.0 ≡ Ok (answer_value (survey_answer s.0)))
          (λ h. refl) (λ h e. refl) (λ h e. refl)

  pub demand_1_survey : Demand1Survey p start most x
  unfolding survey_sentences number_of index_of
  demand_1_survey =
      rw told
      (call_for p x (λ p. survey_tests p start x) (λ p. survey_sentences p start x) looked_after
      (λ p. (result_of p start most x).1) (λ acc. survey_decided _ start x) refl).exactly

-- ---- a survey is refused, whatever the number of sets to look at, or it is allowed
record Allowed (p : Numbers) (start : ℕ) (x : List ℕ) : Type 0 where
  profile : Accepted (profile_of p)
  within : start ≤ sets p.n p.k
  room : length x ≡ p.k

abbrev AlwaysRefused : Numbers → ℕ → List ℕ → Type 0
AlwaysRefused p start x = (r : Refusal) × ((most : ℕ) → survey_of p start most x ≡ (Err r, x))

module _ (p : Numbers) (start : ℕ) (x : List ℕ) where
  abbrev own : List Sentence
  own = survey_sentences (profile_of p) start x

  survey_tried : (most : ℕ) → survey_of p start most x
      ≡ tried (profile_tests p ++ survey_tests (profile_of p) start x) (λ r. (Err r, x))
      (result_of (profile_of p) start most x)
  unfolding survey_of survey_with
  survey_tried most = one_list p (λ r. (Err r, x)) (λ p. survey_tests p start x) (λ p. result_of p start most x)

  tests_decided : Decided (profile_tests p ++ survey_tests (profile_of p) start x) (profile_sentences p ++ own)
  tests_decided = profile_decided p (λ acc. survey_decided _ start x)

  allowed_result : (most : ℕ) → Allowed p start x → survey_of p start most x ≡ result_of (profile_of p) start most x
  unfolding survey_sentences
  allowed_result most A =
      let below : sets p.n p.k < start → ⊥ = λ m. omega (arith, A.within) in
      survey_tried most
      ∙ tried_through _ _ tests_decided (only_append (accepted_none p A.profile) (search line_by_line))

  refused_or_allowed : AlwaysRefused p start x ⊎ Allowed p start x
  unfolding survey_sentences
  refused_or_allowed = go (first_or_none tests_decided)
    where
      go : FirstOrNone (profile_sentences p ++ own) → AlwaysRefused p start x ⊎ Allowed p start x
      go (inl (r, first)) = inl (r, λ most. survey_tried most ∙ tried_stops _ _ tests_decided first)
      go (inr f) =
          inr (record {
            profile = (past_profile p f).0;
            within = decided _ (decides_le start (sets p.n p.k))
                (λ n. let m : sets p.n p.k < start = omega arith in refuted {r = OutOfRange} (search by_name));
            room = decided _ (decides_eq (length x) p.k) (λ n. refuted {r = BufferLength} (search by_name));
          })
        where
          refuted : {r : Refusal} → Holds own r → ⊥
          refuted h = held (past_profile p f).1 h

-- ---- the demands
-- A survey that is not refused says what holds of the sets.
survey_tells : SurveyTells
unfolding survey_answer answer_number
survey_tells p start most x e = go (refused_or_allowed p start x)
  where
    go : AlwaysRefused p start x ⊎ Allowed p start x
        → Tells (profile_of p) start most x (survey_of p start most x)
    go (inl (r, refused)) =
        let told : answer_number (Err r) ≡ 0 = rw (refused most) at e in absurd (never_zero r told)
    go (inr A) =
        rw (allowed_result p start x most A) (result_tells (profile_of p) A.profile start most x A.within)

-- The failing sets are those on which readings are refused.
fails_in_reading : FailsInReading
fails_in_reading p pos x y form =
    let r = read_refused p (set_at 0 p.n p.k pos) x y form in (r.1, r.0)

-- The positions give each set once, in order.
all_sets : (n k : ℕ) → AllSets n k
all_sets n k = record {
  rises = set_rising n k;
  ordered = set_order n k;
  ranked = rank_set n k;
  every = set_rank n k;
  next = next_set n k;
}

-- 'done' from the first set on: no set fails,
done_none : (p : Profile) (most looked : ℕ) (x : List ℕ) {outcome : Result Surveyed Refusal × List ℕ} → Tells p 0 most x outcome
    → outcome.0 ≡ Ok (Done looked) → NoneFails p 0 (sets p.n p.k)
done_none p most looked x (failing a b f g c d) e = absurd (let z : ◌≡◌ {A = ℕ} 0 1 = cc in omega arith)
done_none p most looked x (done clear a b) e = clear
done_none p most looked x (left_open clear a) e = absurd (let z : ◌≡◌ {A = ℕ} 0 1 = cc in omega arith)

-- so each can be read.
done_reads_all : DoneReadsAll
unfolding survey_answer answer_number
done_reads_all p most looked set e nodes x y form = (read_answered p nodes x y form).1 two_nowhere
  where
    tells : Tells (profile_of p) 0 most set (survey_of p 0 most set)
    tells = survey_tells p 0 most set (rw e)

    position : (rank_of 0 p.n nodes < sets p.n p.k) × (set_at 0 p.n p.k (rank_of 0 p.n nodes) ≡ nodes)
    position = set_rank p.n p.k nodes form.list

    two_nowhere : TwoData (profile_of p) nodes → ⊥
    two_nowhere two =
        done_none (profile_of p) most looked set tells e (rank_of 0 p.n nodes) (omega arith) position.0
        (subst (TwoData (profile_of p)) (sym position.1) two)

-- A survey of two ranges is one survey.
surveys_join : SurveysJoin
surveys_join p start most more x = go (refused_or_allowed p start x)
  where
    go : AlwaysRefused p start x ⊎ Allowed p start x
        → survey_of p start (most + more) x ≡ joined_outcome (survey_of p start most x) (survey_of p (start + most) more x)
    go (inl (r, refused)) = rw (refused (most + more), refused most)
    go (inr A) =
        rw (allowed_result p start x (most + more) A, allowed_result p start x most A)
        (by_result (profile_of p) start most x
        (λ s. result_of (profile_of p) start (most + more) x ≡ joined_outcome s (survey_of p (start + most) more x))
        (join_failing (profile_of p) start most more x A.within)
        (join_done (profile_of p) start most more x A.within)
        (λ h e.
        let left : start + most < sets p.n p.k =
        omega (arith, A.within) in
        let B : Allowed p (start + most) x =
        record { profile = A.profile; within = omega arith; room = A.room } in
        rw (allowed_result p (start + most) x more B)
        (join_open (profile_of p) start most more x A.within left h)))

pub survey_demands : SurveyDemands
survey_demands = record {
  tells = survey_tells;
  test = set_decided;
  in_reading = fails_in_reading;
  all_sets = all_sets;
  done_reads = done_reads_all;
  join = surveys_join;
}
