-- The laws of `tried`: one test, a line for each of n things, what an answer tells, two lists in a row, and where no
-- test holds.
use Rattle.std.specs.Prelude.{Result, Ok, Err}
use mathlib.Core.Path.{◌≡◌, refl, sym, ap, ◌∙◌}
use mathlib.Core.Bool.{Bool, true, false}
use mathlib.Core.List.{List, [], ◌∷◌, ◌++◌}
use Prim.Native.Nat.{ℕ, zero, suc, ◌<◌, suc-le-suc}
use native.Mathlib.Nat.{le_of_suc-le-suc, not-suc-le-zero, zero-lt-suc}
use native.Mathlib.Omega.{arith}
use Rattle.lists.specs.Listed.{listed}
use Rattle.document.specs.declared.Refusal.{Refusal}
use Rattle.document.specs.Refusals.{Test, tried}

-- one test, by its outcome
module _ {ℓ} {X : Type ℓ} (refuse : Refusal → X) (test : Test) (tests : List Test) (x : X) where
  pub tried_holds : test.holds ≡ true → tried (test ∷ tests) refuse x ≡ refuse test.refusal
  unfolding tried
  tried_holds e = simp e

  pub tried_not : test.holds ≡ false → tried (test ∷ tests) refuse x ≡ tried tests refuse x
  unfolding tried
  tried_not e = simp e

module _ {ℓ} {X : Type ℓ} (refuse : Refusal → X) where
  -- a line for each number below n: the first that holds is given, or else the rest is tried
  pub tried_first : (n : ℕ) (T : ℕ → Test) (rest : List Test) (x : X) (i : ℕ) → i < n
      → ((e : ℕ) → e < i → (T e).holds ≡ false) → (T i).holds ≡ true
      → tried (listed n T ++ rest) refuse x ≡ refuse (T i).refusal
  unfolding listed
  tried_first zero T rest x i l before here = absurd (not-suc-le-zero l)
  tried_first (suc n) T rest x zero l before here =
      tried_holds refuse (T 0) (listed n (λ e. T (suc e)) ++ rest) x here
  tried_first (suc n) T rest x (suc i) l before here =
      tried_not refuse (T 0) (listed n (λ e. T (suc e)) ++ rest) x (before 0 (zero-lt-suc i))
      ∙ tried_first n (λ e. T (suc e)) rest x i (le_of_suc-le-suc l) (λ e h. before (suc e) (suc-le-suc h)) here

  pub tried_none : (n : ℕ) (T : ℕ → Test) (rest : List Test) (x : X) → ((e : ℕ) → e < n → (T e).holds ≡ false)
      → tried (listed n T ++ rest) refuse x ≡ tried rest refuse x
  unfolding listed
  tried_none zero T rest x h = refl
  tried_none (suc n) T rest x h =
      tried_not refuse (T 0) (listed n (λ e. T (suc e)) ++ rest) x (h 0 (zero-lt-suc n))
      ∙ tried_none n (λ e. T (suc e)) rest x (λ e l. h (suc e) (suc-le-suc l))

  -- what the answer of the tests alone tells of a call that tries them
  module _ {Y : Type 0} (v : Y) (z : X) where
    pub tried_refused : (tests : List Test) (r : Refusal) → tried tests Err (Ok v) ≡ Err r
        → tried tests refuse z ≡ refuse r
    unfolding tried
    tried_refused [] r e = absurd (let d : ◌≡◌ {A = ℕ} 0 1 = cc in omega arith)
    tried_refused (test ∷ tests) r e = go test.holds refl (tried_refused tests r)
      where
        go : (b : Bool) → test.holds ≡ b → (tried tests Err (Ok v) ≡ Err r → tried tests refuse z ≡ refuse r)
            → tried (test ∷ tests) refuse z ≡ refuse r
        go true h rest =
            let d : ◌≡◌ {A = Result Y Refusal} (Err test.refusal) (Err r) = sym (tried_holds Err test tests (Ok v) h) ∙ e in
            let s : test.refusal ≡ r = cc in
            tried_holds refuse test tests z h ∙ ap refuse s
        go false h rest =
            tried_not refuse test tests z h ∙ rest (sym (tried_not Err test tests (Ok v) h) ∙ e)

    pub tried_passed : (tests : List Test) (u : Y) → tried tests Err (Ok v) ≡ Ok u → tried tests refuse z ≡ z
    unfolding tried
    tried_passed [] u e = refl
    tried_passed (test ∷ tests) u e = go test.holds refl (tried_passed tests u)
      where
        go : (b : Bool) → test.holds ≡ b → (tried tests Err (Ok v) ≡ Ok u → tried tests refuse z ≡ z)
            → tried (test ∷ tests) refuse z ≡ z
        go true h rest =
            let d : ◌≡◌ {A = Result Y Refusal} (Err test.refusal) (Ok u) = sym (tried_holds Err test tests (Ok v) h) ∙ e in
            absurd (let s : ◌≡◌ {A = ℕ} 0 1 = cc in omega arith)
        go false h rest =
            tried_not refuse test tests z h ∙ rest (sym (tried_not Err test tests (Ok v) h) ∙ e)

-- a call that is done tried its first test in vain
pub first_failed : {Y : Type 0} (test : Test) (tests : List Test) (v u : Y) → tried (test ∷ tests) Err (Ok v) ≡ Ok u
    → test.holds ≡ false
unfolding tried
first_failed test tests v u e = go test.holds e
  where
    go : (b : Bool) → tried (record { refusal = test.refusal; holds = b } ∷ tests) Err (Ok v) ≡ Ok u
        → b ≡ false
    go true e = absurd (let z : ◌≡◌ {A = ℕ} 1 0 = cc in omega arith)
    go false e = refl

-- a function of what a call that tries its tests in order gives
pub tried_map : {X Y : Type 0} (g : X → Y) (tests : List Test) (refuse : Refusal → X) (x : X)
    → g (tried tests refuse x) ≡ tried tests (λ r. g (refuse r)) (g x)
unfolding tried
tried_map g [] refuse x = refl
tried_map g (test ∷ tests) refuse x = go test.holds (tried_map g tests refuse x)
  where
    go : (b : Bool) → g (tried tests refuse x) ≡ tried tests (λ r. g (refuse r)) (g x)
        → g (tried (record { refusal = test.refusal; holds = b } ∷ tests) refuse x)
        ≡ tried (record { refusal = test.refusal; holds = b } ∷ tests) (λ r. g (refuse r)) (g x)
    go true h = refl
    go false h = h

-- tests that are tried one after the other, as one list or as two
pub tried_append : {X : Type 0} (a b : List Test) (refuse : Refusal → X) (x : X)
    → tried (a ++ b) refuse x ≡ tried a refuse (tried b refuse x)
unfolding tried
tried_append [] b refuse x = refl
tried_append (test ∷ a) b refuse x = go test.holds (tried_append a b refuse x)
  where
    go : (c : Bool) → tried (a ++ b) refuse x ≡ tried a refuse (tried b refuse x)
        → tried (record { refusal = test.refusal; holds = c } ∷ (a ++ b)) refuse x
        ≡ tried (record { refusal = test.refusal; holds = c } ∷ a) refuse (tried b refuse x)
    go true h = refl
    go false h = h

-- no test of the list holds
abbrev pub Failed : List Test → Type 0
Failed [] = Unit
Failed (test ∷ tests) = (test.holds ≡ false) × Failed tests

-- what holds of each refusal, and of the rest where no test holds
pub tried_by : {X : Type 0} (R : X → Type 0) (tests : List Test) (refuse : Refusal → X) (x : X)
    → ((r : Refusal) → R (refuse r)) → (Failed tests → R x) → R (tried tests refuse x)
unfolding tried
tried_by R [] refuse x refused rest = rest tt
tried_by R (test ∷ tests) refuse x refused rest =
    go test.holds refl (λ e. tried_by R tests refuse x refused (λ f. rest (e, f)))
  where
    go : (b : Bool) → test.holds ≡ b → (test.holds ≡ false → R (tried tests refuse x))
        → R (tried (record { refusal = test.refusal; holds = b } ∷ tests) refuse x)
    go true e h = refused test.refusal
    go false e h = h e

-- calls with the same tests are alike if they are where no test holds
pub tried_same : {X : Type 0} (tests : List Test) (refuse : Refusal → X) (x y : X) → (Failed tests → x ≡ y)
    → tried tests refuse x ≡ tried tests refuse y
unfolding tried
tried_same [] refuse x y same = same tt
tried_same (test ∷ tests) refuse x y same =
    go test.holds refl (λ e. tried_same tests refuse x y (λ f. same (e, f)))
  where
    go : (b : Bool) → test.holds ≡ b → (test.holds ≡ false → tried tests refuse x ≡ tried tests refuse y)
        → tried (record { refusal = test.refusal; holds = b } ∷ tests) refuse x
        ≡ tried (record { refusal = test.refusal; holds = b } ∷ tests) refuse y
    go true e h = refl
    go false e h = h e
