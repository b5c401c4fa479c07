-- The values of answers are small: a strip's index is below the number of planned places, a bundle is short, and a
-- survey's position and number of sets are at most the number of sets of 12 of 24 nodes.
use Rattle.std.specs.Prelude.{Result, Ok, Err}
use mathlib.Core.Path.{◌≡◌, refl}
use mathlib.Core.Bool.{Bool, true, false, ◌&&◌, not}
use mathlib.Core.List.{List, [], ◌∷◌, ◌++◌}
use Prim.Native.Nat.{ℕ, zero, suc, ◌*◌, ◌≤◌, ◌<◌, zero-le, suc-le-suc}
use native.Mathlib.Nat.{zero-lt-suc}
use native.Mathlib.Omega.{arith}
use lib.Dec.{eqb, ltb}
use lib.ListN.{length}
use borrow.Author.Tests.{ltb-true, ltb-false, not-false}
use Rattle.lists.specs.Listed.{listed}
use Rattle.ksets.specs.Sets.{sets}
use Rattle.ksets.proofs.Pascal.{sets_bound}
use Rattle.document.specs.declared.Numbers.{Numbers}
use Rattle.document.specs.declared.Profile.{Profile}
use Rattle.document.specs.declared.Node.{Node}
use Rattle.document.specs.declared.Recording.{Recording}
use Rattle.document.specs.declared.Refusal.{Refusal}
use Rattle.document.specs.declared.Surveyed.{Surveyed}
use Rattle.document.specs.Refusals.{Test, tried, index_of, answer_value, Answer}
use Rattle.document.specs.Profile.{Accepted, profile_tests, profile_of, on_accepted}
use Rattle.document.specs.Encoding.{encode_tests, encode_with, encode_of}
use Rattle.document.specs.Plan.{planned, max_places, plan_tests, plan_with, plan_of}
use Rattle.document.specs.Message.{message_tests}
use Rattle.document.specs.Bundle.{
  bundle_length,
  longest_bundle,
  bundle_of,
  write_tests,
  write_with,
  write_of,
  bundle_tests,
}
use Rattle.document.specs.Rebuild.{rebuild_tests, rebuild_with, rebuild_of}
use Rattle.document.specs.Reading.{read_tests, read_with, read_of}
use Rattle.document.specs.Survey.{result_of, survey_tests, survey_with, survey_of, failing_position, looked_in}
use Rattle.document.proofs.Decides.{decides_eq, decides_both}
use Rattle.document.proofs.Accepts.{failed_accepted}
use Rattle.document.proofs.Price.{few_places}
use Rattle.document.proofs.Bundle.{bundle_length_lem, bundle_bound}
use Rattle.document.proofs.Surveys.{by_result}

-- Of a list of tests: each refusal comes with an index of at most `most`, if those before it were not given, and Q
-- holds if none was.
data Small (most : ℕ) (Q : Type 0) : List Test → Type 0 where
  done : Q → Small most Q []
  next : {test : Test} {tests : List Test} → index_of test.refusal ≤ most
      → (test.holds ≡ false → Small most Q tests) → Small most Q (test ∷ tests)

-- what holds of each small refusal, and of x if Q does, holds of the outcome
tried_small : {X : Type 0} (R : X → Type 0) {most : ℕ} {Q : Type 0} (refuse : Refusal → X) (x : X)
    → ((r : Refusal) → index_of r ≤ most → R (refuse r)) → (Q → R x)
    → {tests : List Test} → Small most Q tests → R (tried tests refuse x)
unfolding tried
tried_small R refuse x f g (done h) = g h
tried_small R refuse x f g (next {test} {tests} h rest) =
    go test.holds refl (λ e. tried_small R refuse x f g (rest e))
  where
    go : (b : Bool) → test.holds ≡ b → (test.holds ≡ false → R (tried tests refuse x))
        → R (tried (record { refusal = test.refusal; holds = b } ∷ tests) refuse x)
    go true e r = f test.refusal h
    go false e r = r e

module _ {X : Type 0} (x y : X) (v : ℕ) where
  abbrev outcome_of : List Test → Answer × X
  outcome_of tests = tried tests (λ r. (Err r, x)) (Ok v, y)

  value_small : {most : ℕ} {tests : List Test} → Small most (v ≤ most) tests → answer_value (outcome_of tests).0 ≤ most
  unfolding answer_value
  value_small {most} small =
      tried_small (λ (o : Answer × X). answer_value o.0 ≤ most) (λ r. (Err r, x)) (Ok v, y) (λ r h. h) (λ h. h) small

-- a test for each of n strips
small_listed : {most : ℕ} {Q : Type 0} (n : ℕ) (T : ℕ → Test) → ((i : ℕ) → i < n → index_of (T i).refusal ≤ most)
    → {tests : List Test} → Small most Q tests → Small most Q (listed n T ++ tests)
unfolding listed
small_listed zero T h rest = rest
small_listed (suc n) T h rest =
    next (h 0 (zero-lt-suc n)) (λ e. small_listed n (λ i. T (suc i)) (λ i l. h (suc i) (suc-le-suc l)) rest)

small_last : {most : ℕ} {Q : Type 0} (n : ℕ) (T : ℕ → Test) → ((i : ℕ) → i < n → index_of (T i).refusal ≤ most) → Q
    → Small most Q (listed n T)
unfolding listed
small_last zero T h value = done value
small_last (suc n) T h value =
    next (h 0 (zero-lt-suc n)) (λ e. small_last n (λ i. T (suc i)) (λ i l. h (suc i) (suc-le-suc l)) value)

-- what a C host is told of a survey: a position, and a number of sets looked at
pub record Counted (answer : Result Surveyed Refusal) : Type 0 where
  pub position : failing_position answer ≤ 2704156
  pub looked : looked_in answer ≤ 2704156

module _ (p : Numbers) where
  -- a profile's refusals come with 0; the rest of a call may count on an accepted profile
  by_profile : {X : Type 0} (R : X → Type 0) (refuse : Refusal → X) (go : Profile → X)
      → ((r : Refusal) → index_of r ≤ 0 → R (refuse r)) → (Accepted (profile_of p) → R (go (profile_of p)))
      → R (on_accepted p refuse go)
  unfolding on_accepted profile_tests index_of
  by_profile R refuse go f g =
      tried_small R refuse _ f (λ h. h)
      (next zero-le (λ shape. next zero-le (λ constant. next zero-le (λ strip. next zero-le (λ edition.
      done (g (failed_accepted p (shape, (constant, (strip, (edition, tt)))))))))))

  value_by : {X : Type 0} (x : X) (go : Profile → Answer × X) {most : ℕ}
      → (Accepted (profile_of p) → answer_value (go (profile_of p)).0 ≤ most)
      → answer_value (on_accepted p (λ r. (Err r, x)) go).0 ≤ most
  unfolding answer_value
  value_by {X} x go {most} =
      by_profile (λ (o : Answer × X). answer_value o.0 ≤ most) (λ r. (Err r, x)) go (λ r h. omega arith)

  pub encode_value : (d x : List ℕ) → answer_value (encode_of p d x).0 ≤ 0
  unfolding encode_of encode_with encode_tests index_of
  encode_value d x = value_by x _ (λ acc. value_small x _ 0 (next zero-le (λ e. done zero-le)))

  pub read_value : (nodes x y : List ℕ) → answer_value (read_of p nodes x y).0 ≤ 0
  unfolding read_of read_with read_tests index_of
  read_value nodes x y =
      value_by y _
      (λ acc. value_small y _ 0 (next zero-le (λ e. next zero-le (λ f. next zero-le (λ g. done zero-le)))))

  -- no position and no number of sets is greater than the number of sets of 24 nodes
  pub survey_counted : (start most : ℕ) (x : List ℕ) → Counted (survey_of p start most x).0
  unfolding survey_of survey_with survey_tests failing_position looked_in index_of
  survey_counted start most x =
      by_profile (λ (o : Result Surveyed Refusal × List ℕ). Counted o.0) (λ r. (Err r, x)) _
      (λ r h. record { position = zero-le; looked = zero-le })
      (λ acc.
      tried_small (λ (o : Result Surveyed Refusal × List ℕ). Counted o.0) {most = 0} (λ r. (Err r, x)) _
      (λ r h. record { position = zero-le; looked = zero-le }) (λ c. c)
      (next zero-le (λ e. next zero-le (λ f. done (counted acc (ltb-false (sets p.n p.k) start e))))))
    where
      profile : Profile
      profile = profile_of p

      all : Accepted profile → sets p.n p.k ≤ 2704156
      all acc = sets_bound p.n p.k acc.shape.few_nodes

      counted : Accepted profile → start ≤ sets p.n p.k → Counted (result_of profile start most x).0
      counted acc h =
          let b = all acc in
          by_result profile start most x (λ o. Counted o.0)
          (λ u. record { position = omega arith; looked = omega arith })
          (λ u v. record { position = zero-le; looked = omega arith })
          (λ u v. record { position = zero-le; looked = omega arith })

  module _ (lost : ℕ) where
    abbrev node : Node
    node = record { 0 = lost }

    abbrev places : ℕ
    places = length (planned (profile_of p) node)

    -- the lost node's test did not hold
    few : Accepted (profile_of p) → not (ltb lost p.n) ≡ false → places ≤ max_places
    few acc e = few_places (profile_of p) acc node (ltb-true lost p.n (not-false _ e))

    pub plan_value : (x : List ℕ) → answer_value (plan_of p lost x).0 ≤ max_places
    unfolding plan_of plan_with plan_tests index_of
    plan_value x =
        value_by x _ (λ acc. value_small x _ _ (next zero-le (λ e. next zero-le (λ f. done (few acc e)))))

    pub write_value : (r : Recording) (x b : List ℕ) → answer_value (write_of p lost r x b).0 ≤ longest_bundle
    unfolding write_of write_with write_tests index_of
    write_value r x b =
        value_by b _
        (λ acc. value_small b _ _ (next zero-le (λ e. next zero-le (λ f. done (size acc e (not-false _ f))))))
      where
        size : Accepted (profile_of p) → not (ltb lost p.n) ≡ false
            → eqb (length x) (p.n * p.a * p.s) && eqb (length b) (bundle_length (profile_of p) node) ≡ true
            → length (bundle_of (profile_of p) node r x) ≤ longest_bundle
        size acc e f =
            let below : lost < p.n = ltb-true lost p.n (not-false _ e) in
            let stored : length x ≡ p.n * p.a * p.s =
            ((decides_both _ _ (decides_eq (length x) (p.n * p.a * p.s)) (decides_eq (length b) _)).0 f).0 in
            omega (
              arith,
              bundle_length_lem (profile_of p) acc x stored r node below,
              bundle_bound (profile_of p) acc node below,
            )

    pub rebuild_value : (r : Recording) (b y : List ℕ) → answer_value (rebuild_of p lost r b y).0 < max_places
    unfolding rebuild_of rebuild_with rebuild_tests bundle_tests message_tests index_of
    rebuild_value r b y =
        suc-le-suc
        (value_by y _
        (λ acc. value_small y _ 0
        (next zero-le (λ e. next zero-le (λ f. next zero-le (λ g. next zero-le (λ h.
        small_listed places _ (small acc e) (small_last places _ (small acc e) zero-le))))))))
      where
        small : Accepted (profile_of p) → not (ltb lost p.n) ≡ false → (i : ℕ) → i < places → i ≤ 37
        small acc e i l = omega (arith, few acc e)
