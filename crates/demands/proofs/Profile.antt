-- What a table says of a call that is given a profile's numbers, and then tries tests of its own over an accepted
-- profile: `call_for`, the case of `call_of_lem` whose table begins with the lines of a profile.
--
-- accepted_none                : no line of an accepted profile holds
-- past_profile                 : where no line holds, the profile is accepted, and no line of the call's own holds
-- profile_decided              : a profile's tests decide their lines before tests that do so for an accepted profile
-- Granted p table outcome done : what is known of a call with the numbers p where it is not refused
-- CallFor p tests table lines before outcome done : what is known of a call with the numbers p; its tests, its table
--                                and its lines are those past the profile's
use Rattle.std.specs.Prelude.{Result, Ok, Err}
use mathlib.Core.Path.{◌≡◌, refl, ap, subst, ◌∙◌}
use mathlib.Core.Logic.{◌≢◌, ◌⊎◌, inl, inr}
use mathlib.Core.List.{List, [], ◌++◌}
use Prim.Native.Nat.{ℕ, ◌≤◌, ◌<◌}
use native.Mathlib.Decide.{ℕ_discrete, dec_lt}
use native.Mathlib.Omega.{arith}
use Rattle.document.specs.declared.Numbers.{Numbers}
use Rattle.document.specs.declared.Profile.{Profile}
use Rattle.document.specs.declared.Refusal.{Refusal}
use Rattle.document.specs.Refusals.{number_of, index_of, answer_number, Test, tried, Answer}
use Rattle.document.specs.Profile.{Accepted, profile_tests, profile_of, on_accepted, checked_of, checked_answer}
use Rattle.document.proofs.Decides.{decides_not, decides_same}
use Rattle.document.proofs.Accepts.{
  decides_shape,
  decides_constant,
  decides_strip,
  decides_edition,
  failed_accepted,
  accepted,
  one_list,
  on_accepted_map,
  on_accepted_same,
}
use Rattle.document.proofs.Tried.{tried_map, tried_by}
use Rattle.demands.specs.Tables.{Sentence, FirstOf, Decided, none, line, number_in, Numbered}
use Rattle.demands.specs.Profile.{profile_sentences, profile_lines, Demand1Profile, Demand1For}
use Rattle.demands.proofs.Tables.{
  Holds,
  held,
  only_append,
  only_split,
  line_by_line,
  NoneHolds,
  unheld,
  first_past,
  decided_then,
  decided_failed,
  map-append,
}
use Rattle.demands.proofs.Calls.{CallOf, call_of_lem}

-- ---- the lines of a profile
-- what is not within 1..512 is 0 or above 512
outside : (S : ℕ) → ((1 ≤ S) × (S ≤ 512) → ⊥) → (S ≡ 0) ⊎ (512 < S)
outside S n = go (ℕ_discrete S 0) (dec_lt 512 S)
  where
    go : Dec (S ≡ 0) → Dec (512 < S) → (S ≡ 0) ⊎ (512 < S)
    go (yes e) m = inl e
    go (no z) (yes l) = inr l
    go (no z) (no m) = absurd (n (omega arith, omega arith))

inside : (S : ℕ) → (S ≡ 0) ⊎ (512 < S) → (1 ≤ S) × (S ≤ 512) → ⊥
inside S (inl e) h = omega arith
inside S (inr l) h = omega arith

-- what is not within 1..2 is neither
neither : (e : ℕ) → ((1 ≤ e) × (e ≤ 2) → ⊥) → (e ≢ 1) × (e ≢ 2)
neither e n = ((λ one. n (omega arith, omega arith)), λ two. n (omega arith, omega arith))

either : (e : ℕ) → (e ≢ 1) × (e ≢ 2) → (1 ≤ e) × (e ≤ 2) → ⊥
either e h within = h.1 (omega (arith, h.0))

module _ (p : Numbers) where
  pub accepted_none : Accepted (profile_of p) → NoneHolds (profile_sentences p)
  unfolding profile_sentences
  accepted_none acc =
      let strip : (p.s ≡ 0) ⊎ (512 < p.s) → ⊥ = λ m. inside p.s m (acc.some_bytes, acc.short) in
      let edition : (p.edition ≢ 1) × (p.edition ≢ 2) → ⊥ =
      λ h. either p.edition h (acc.first_edition, acc.last_edition) in
      search line_by_line

  -- the tests of a profile decide them
  profile_lines_lem : Decided (profile_tests p) (profile_sentences p)
  unfolding profile_tests profile_sentences
  profile_lines_lem =
      line refl (decides_not _ (decides_shape p.n p.k p.a))
      (λ shape.
      line refl (decides_not _ (decides_constant p.t))
      (λ constant.
      line refl (decides_same _ (decides_not _ (decides_strip p.s)) (outside p.s) (inside p.s))
      (λ strip.
      line refl
      (decides_same _ (decides_not _ (decides_edition p.edition)) (neither p.edition) (either p.edition))
      (λ edition. none))))

  none_accepted : NoneHolds (profile_sentences p) → Accepted (profile_of p)
  none_accepted f = failed_accepted p (decided_failed profile_lines_lem f)

  pub past_profile : {table : List Sentence} → NoneHolds (profile_sentences p ++ table)
      → Accepted (profile_of p) × NoneHolds table
  past_profile f = let parts = only_split (profile_sentences p) f in (none_accepted parts.0, parts.1)

  pub profile_decided : {tests : List Test} {table : List Sentence} → (Accepted (profile_of p) → Decided tests table)
      → Decided (profile_tests p ++ tests) (profile_sentences p ++ table)
  profile_decided rest = decided_then profile_lines_lem (λ f. rest (none_accepted f))

-- what `Profile::new` hands out
module _ (p : Numbers) where
  abbrev HandedOut : Result Profile Refusal → Type 0
  HandedOut (Ok profile) = profile ≡ profile_of p
  HandedOut (Err r) = Unit

  handed_out : HandedOut (checked_of p)
  unfolding checked_of on_accepted
  handed_out = tried_by HandedOut (profile_tests p) Err (Ok (profile_of p)) (λ r. tt) (λ h. refl)

  -- its outcome is that of a call which tries a profile's tests alone
  abbrev told : Result Profile Refusal → Answer × List ℕ
  told c = (checked_answer c, [])

  alone : told (checked_of p) ≡ tried (profile_tests p) (λ r. (Err r, [])) (Ok 0, [])
  unfolding checked_of on_accepted checked_answer
  alone = tried_map told (profile_tests p) Err (Ok (profile_of p))

  numbered : Numbered (profile_sentences p) profile_lines
  unfolding profile_sentences number_of index_of
  numbered = refl

  pub demand_1_profile : Demand1Profile p
  demand_1_profile = record {
    refuses = rw alone (call_of_lem [] 0 [] (profile_lines_lem p) numbered).exactly;
    passes = λ profile e. (subst HandedOut e handed_out, accepted p e);
  }

-- ---- a call that is given a profile's numbers
pub record Granted {X : Type 0} (p : Numbers) (table : List Sentence) (outcome done : Answer × X) : Type 1 where
  pub accepted : Accepted (profile_of p)
  pub refuted : {r : Refusal} → Holds table r → ⊥
  pub is_done : outcome ≡ done

pub record CallFor {X : Type 0} (p : Numbers) (tests : Profile → List Test) (table : Profile → List Sentence)
    (lines : List (ℕ × ℕ)) (before : X) (outcome done : Answer × X) : Type 1 where
  -- demand 1
  pub exactly : Demand1For p tests table lines before outcome
  -- what an answer with the number 0 tells
  pub granted : answer_number outcome.0 ≡ 0 → Granted p (table (profile_of p)) outcome done
  -- what the call's own lines tell of the answer, for an accepted profile
  pub stops : Accepted (profile_of p) → {r : Refusal} → FirstOf (table (profile_of p)) r → outcome ≡ (Err r, before)
  pub through : Accepted (profile_of p) → NoneHolds (table (profile_of p)) → outcome ≡ done

module _ {X : Type 0} (p : Numbers) (before : X) (tests : Profile → List Test) (table : Profile → List Sentence)
    (v : Profile → ℕ) (after : Profile → X)
    (decides : Accepted (profile_of p) → Decided (tests (profile_of p)) (table (profile_of p))) {lines : List (ℕ × ℕ)}
    (numbered : Numbered (table (profile_of p)) lines) where
  abbrev call_of : Answer × X
  call_of =
      on_accepted p (λ r. (Err r, before))
      (λ p. tried (tests p) (λ r. (Err r, before)) (Ok (v p), after p))

  all_numbered : Numbered (profile_sentences p ++ table (profile_of p)) (profile_lines ++ lines)
  unfolding profile_sentences number_of index_of
  all_numbered =
      map-append (profile_sentences p) (table (profile_of p)) number_in
      ∙ ap (λ (l : List (ℕ × ℕ)). profile_lines ++ l) numbered

  -- it tries the tests of a profile and its own in a row
  in_a_row : CallOf (profile_tests p ++ tests (profile_of p)) (profile_sentences p ++ table (profile_of p))
      (profile_lines ++ lines) before call_of (Ok (v (profile_of p)), after (profile_of p))
  in_a_row =
      rw (one_list {X = Answer × X} p (λ r. (Err r, before)) tests (λ p. (Ok (v p), after p)))
      (call_of_lem before (v (profile_of p)) (after (profile_of p)) (profile_decided p decides) all_numbered)

  pub call_for : CallFor p tests table lines before call_of (Ok (v (profile_of p)), after (profile_of p))
  call_for = record {
    exactly = in_a_row.exactly;
    granted = λ e.
        let g = in_a_row.granted e in
        let past = past_profile p (unheld _ (λ r h. g.refuted h)) in
        record { accepted = past.0; refuted = held past.1; is_done = g.is_done };
    stops = λ acc first. in_a_row.stops (first_past (accepted_none p acc) first);
    through = λ acc f. in_a_row.through (only_append (accepted_none p acc) f);
  }

-- its answer, by the tests alone
pub call_answer : {X : Type 0} (p : Numbers) (before : X) (tests : Profile → List Test) (v : Profile → ℕ)
    (after : Profile → X)
    → (on_accepted {X = Answer × X} p (λ r. (Err r, before))
    (λ p. tried (tests p) (λ r. (Err r, before)) (Ok (v p), after p))).0
    ≡ on_accepted p Err (λ p. tried (tests p) Err (Ok (v p)))
call_answer {X} p before tests v after =
    on_accepted_map (λ (o : Answer × X). o.0) p _ _
    ∙ on_accepted_same p Err _ _ (λ acc. tried_map (λ (o : Answer × X). o.0) (tests (profile_of p)) _ _)
