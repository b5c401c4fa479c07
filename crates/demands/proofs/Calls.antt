-- What a table of refusals says of a call that tries its tests in order: `call_of_lem`, once for all calls, over the list
-- of its tests. Profile.antt has the case of a call that is given a profile's numbers.
--
-- tried_stops, tried_through   : a call, whatever it answers: the first of its table is given; where no line holds, all
--                                its tests are tried in vain
-- Unrefused table outcome done : what is known of a call where it is not refused
-- CallOf tests table lines before outcome done : what is known of a call with these tests and this table that is lent
--                                `before`: its outcome is `done` where it is not refused
use Rattle.std.specs.Prelude.{Ok, Err}
use mathlib.Core.Path.{◌≡◌, refl, sym, ap, ◌∙◌}
use mathlib.Core.Logic.{inl, inr}
use mathlib.Core.List.{List}
use Prim.Native.Nat.{ℕ}
use native.Mathlib.Omega.{arith}
use Rattle.document.specs.declared.Refusal.{Refusal}
use Rattle.document.specs.Refusals.{answer_number, Test, tried, Answer}
use Rattle.document.proofs.Decides.{decides_false}
use Rattle.document.proofs.Refusals.{never_zero}
use Rattle.document.proofs.Tried.{tried_holds, tried_not}
use Rattle.demands.specs.Tables.{
  Sentence,
  FirstOf,
  here,
  later,
  RefusesExactly,
  Decided,
  none,
  line,
  Numbered,
  Demand1Of,
}
use Rattle.demands.proofs.Tables.{
  Holds,
  no_line_lem,
  and_line,
  held,
  NoneHolds,
  none_holds,
  none_applies,
  unheld,
  FirstOrNone,
  first_or_none,
}

-- ---- a call, whatever it answers
module _ {X : Type 0} (refuse : Refusal → X) (x : X) where
  pub tried_stops : {tests : List Test} {table : List Sentence} → Decided tests table → {r : Refusal} → FirstOf table r
      → tried tests refuse x ≡ refuse r
  tried_stops none {r = r} x5 = elim x5 [ ]
  tried_stops (line {test} {s} {tests} same decides rest) (here h) =
      tried_holds refuse test tests x (decides.1 h) ∙ ap refuse same
  tried_stops (line {test} {s} {tests} same decides rest) (later n first) =
      tried_not refuse test tests x (decides_false _ decides n) ∙ tried_stops (rest n) first

  pub tried_through : {tests : List Test} {table : List Sentence} → Decided tests table → NoneHolds table
      → tried tests refuse x ≡ x
  unfolding tried
  tried_through none no_line_lem = refl
  tried_through (line {test} {s} {tests} same decides rest) (and_line n f) =
      tried_not refuse test tests x (decides_false _ decides n) ∙ tried_through (rest n) f

-- ---- a call with an answer
pub record Unrefused {X : Type 0} (table : List Sentence) (outcome done : Answer × X) : Type 1 where
  pub refuted : {r : Refusal} → Holds table r → ⊥
  pub is_done : outcome ≡ done

pub record CallOf {X : Type 0} (tests : List Test) (table : List Sentence) (lines : List (ℕ × ℕ)) (before : X)
    (outcome done : Answer × X) : Type 1 where
  -- demand 1
  pub exactly : Demand1Of tests table lines before outcome
  -- what an answer with the number 0 tells
  pub granted : answer_number outcome.0 ≡ 0 → Unrefused table outcome done
  -- what the table tells of the answer
  pub stops : {r : Refusal} → FirstOf table r → outcome ≡ (Err r, before)
  pub through : NoneHolds table → outcome ≡ done

module _ {X : Type 0} (before : X) (v : ℕ) (after : X) {tests : List Test} {table : List Sentence}
    (decides : Decided tests table) where
  abbrev outcome : Answer × X
  outcome = tried tests (λ r. (Err r, before)) (Ok v, after)

  stopped : {r : Refusal} → FirstOf table r → outcome ≡ (Err r, before)
  stopped = tried_stops (λ r. (Err r, before)) (Ok v, after) decides

  passed : NoneHolds table → outcome ≡ (Ok v, after)
  passed = tried_through (λ r. (Err r, before)) (Ok v, after) decides

  is_first : (r : Refusal) → outcome.0 ≡ Err r → FirstOf table r
  is_first r e = go (first_or_none decides)
    where
      go : FirstOrNone table → FirstOf table r
      go (inl (q, first)) =
          let told : Err q ≡ Err r = sym (ap (λ o. o.0) (stopped first)) ∙ e in
          let same : q ≡ r = cc in
          rw (← same) first
      go (inr f) =
          let told : Ok v ≡ Err r = sym (ap (λ o. o.0) (passed f)) ∙ e in
          absurd (let z : ◌≡◌ {A = ℕ} 0 1 = cc in omega arith)

  unrefused : answer_number outcome.0 ≡ 0 → Unrefused table outcome (Ok v, after)
  unfolding answer_number
  unrefused e = go (first_or_none decides)
    where
      go : FirstOrNone table → Unrefused table outcome (Ok v, after)
      go (inl (r, first)) = absurd (never_zero r (sym (ap (λ o. answer_number o.0) (stopped first)) ∙ e))
      go (inr f) = record { refuted = held f; is_done = passed f }

  refuses : RefusesExactly table before outcome
  unfolding answer_number
  refuses = record {
    given = λ r. (is_first r, λ first. ap (λ o. o.0) (stopped first));
    answered = (
      (λ f. ap (λ o. answer_number o.0) (passed (none_holds f))),
      λ e. none_applies (unheld table (λ r h. (unrefused e).refuted h)),
    );
    kept = λ r e. ap (λ o. o.1) (stopped (is_first r e));
  }

  pub call_of_lem : {lines : List (ℕ × ℕ)} → Numbered table lines
      → CallOf tests table lines before (tried tests (λ r. (Err r, before)) (Ok v, after)) (Ok v, after)
  call_of_lem numbered = record {
    exactly = record { numbered = numbered; decided = decides; refuses = refuses };
    granted = unrefused;
    stops = stopped;
    through = passed;
  }
