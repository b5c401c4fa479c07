-- The laws of `first_in`, the first of some positions for which a test holds, and the three cases of a survey's result.
use Rattle.std.specs.Prelude.{Result, Ok}
use mathlib.Core.Path.{◌≡◌, refl, sym, ap, ◌∙◌}
use mathlib.Core.Bool.{Bool, true, false, cond, false≢true}
use mathlib.Core.List.{List}
use Prim.Native.Nat.{ℕ, zero, suc, ◌+◌, ◌-◌, ◌≤◌, ◌<◌}
use native.Mathlib.Numerals.{add-one}
use native.Mathlib.Decide.{ℕ_discrete, dec_lt}
use native.Mathlib.Omega.{arith}
use borrow.Author.Tests.{lt-ltb, le-ltb, eq-eqb, ne_eqb}
use Rattle.ksets.specs.Sets.{sets, set_at}
use Rattle.document.specs.declared.Profile.{Profile}
use Rattle.document.specs.declared.Refusal.{Refusal}
use Rattle.document.specs.declared.Surveyed.{Surveyed}
use Rattle.document.specs.declared.Surveyed.TheVariants.{Failing, Done, Open}
use Rattle.document.specs.Survey.{first_in, looked_at, found_from, result_of}

module _ (P : ℕ → Bool) where
  -- f is the first of the c positions from `at` on for which P holds; the one after them if there is none.
  pub record First (at c f : ℕ) : Type 0 where
    pub low : at ≤ f
    pub high : f ≤ at + c
    pub before : (pos : ℕ) → at ≤ pos → pos < f → P pos ≡ false
    pub holds : f < at + c → P f ≡ true

  -- There is one only.
  pub first_one : {at c f g : ℕ} → First at c f → First at c g → f ≡ g
  first_one {at} {c} {f} {g} F G = go (dec_lt f g) (dec_lt g f)
    where
      go : Dec (f < g) → Dec (g < f) → f ≡ g
      go (yes l) m = absurd (false≢true (sym (G.before f F.low l) ∙ F.holds (omega arith)))
      go (no l) (yes m) = absurd (false≢true (sym (F.before g G.low m) ∙ G.holds (omega arith)))
      go (no l) (no m) = omega arith

  -- at the first position already, or among the others
  first_here : {at c : ℕ} → P at ≡ true → First at (suc c) at
  first_here e = record {
    low = omega arith;
    high = omega arith;
    before = λ pos h l. absurd (omega arith);
    holds = λ l. e;
  }

  first_on : {at c f : ℕ} → P at ≡ false → First (suc at) c f → First at (suc c) f
  first_on {at} {c} {f} e F = record {
    low = omega arith;
    high = omega arith;
    before = before;
    holds = λ l. F.holds (omega arith);
  }
    where
      before : (pos : ℕ) → at ≤ pos → pos < f → P pos ≡ false
      before pos h l = go (ℕ_discrete pos at)
        where
          go : Dec (pos ≡ at) → P pos ≡ false
          go (yes m) = ap P m ∙ e
          go (no m) = F.before pos (omega arith) l

  -- `first_in` finds it.
  pub first_found : (at c : ℕ) → First at c (first_in P at c)
  unfolding first_in
  first_found at zero = record {
    low = omega arith;
    high = omega arith;
    before = λ pos h l. absurd (omega arith);
    holds = λ l. absurd (omega arith);
  }
  first_found at (suc c) = go (P at) refl (first_found (suc at) c)
    where
      go : (b : Bool) → P at ≡ b → First (suc at) c (first_in P (suc at) c)
          → First at (suc c) (cond b at (first_in P (suc at) c))
      go true e F = first_here e
      go false e F = first_on e F

  -- Of two ranges, one after the other: where it is in the first it is that of both, otherwise it is the second's.
  pub first_early : (at a b : ℕ) → first_in P at a < at + a → first_in P at (a + b) ≡ first_in P at a
  first_early at a b h =
      let F : First at a (first_in P at a) = first_found at a in
      first_one (first_found at (a + b))
      (record { low = F.low; high = omega arith; before = F.before; holds = λ l. F.holds h })

  pub first_late : (at a b : ℕ) → at + a ≤ first_in P at a → first_in P at (a + b) ≡ first_in P (at + a) b
  first_late at a b h =
      first_one (first_found at (a + b))
      (record {
        low = omega (arith, G.low);
        high = omega (arith, G.high);
        before = before;
        holds = λ l. G.holds (omega arith);
      })
    where
      later : ℕ
      later = first_in P (at + a) b

      F : First at a (first_in P at a)
      F = first_found at a

      G : First (at + a) b later
      G = first_found (at + a) b

      before : (pos : ℕ) → at ≤ pos → pos < later → P pos ≡ false
      before pos low high = go (dec_lt pos (at + a))
        where
          go : Dec (pos < at + a) → P pos ≡ false
          go (yes l) = F.before pos low (omega arith)
          go (no l) = G.before pos (omega arith) high

-- The search as a loop makes it, from `at` on and before `end`.
module _ (P : ℕ → Bool) (at end : ℕ) where
  -- there is nothing left to look at
  pub range_none : at ≡ end → first_in P at (end - at) ≡ end
  unfolding first_in
  range_none e = let z : end - at ≡ 0 = omega arith in ap (first_in P at) z ∙ e

  module _ (l : at < end) where
    more : end - at ≡ suc (end - (at + 1))
    more = omega arith

    pub range_here : P at ≡ true → first_in P at (end - at) ≡ at
    unfolding first_in
    range_here h = ap (first_in P at) more ∙ simp h

    pub range_later : P at ≡ false → first_in P at (end - at) ≡ first_in P (at + 1) (end - (at + 1))
    unfolding first_in
    range_later h = ap (first_in P at) more ∙ simp (h, add-one)

module _ (p : Profile) where
  open p use {n, k}

  -- ---- the result, by its three cases
  -- what is answered and written where the set at a position is the first that fails
  abbrev pub failing_at : ℕ → ℕ → Result Surveyed Refusal × List ℕ
  failing_at start pos = (Ok (Failing pos (pos - start + 1)), set_at 0 n k pos)

  module _ (start most : ℕ) (x : List ℕ) where
    abbrev looked : ℕ
    looked = looked_at p start most

    abbrev found : ℕ
    found = found_from p start most

    pub result_failing : found_from p start most < start + looked_at p start most
        → result_of p start most x ≡ failing_at start (found_from p start most)
    unfolding result_of
    result_failing h = rw (lt-ltb found (start + looked) h)

    module _ (none : start + looked_at p start most ≤ found_from p start most) where
      pub result_done : start + looked_at p start most ≡ sets n k
          → result_of p start most x ≡ (Ok (Done (looked_at p start most)), x)
      unfolding result_of
      result_done e = rw (le-ltb found (start + looked) none, eq-eqb (start + looked) (sets n k) e)

      pub result_open : (start + looked_at p start most ≡ sets n k → ⊥)
          → result_of p start most x ≡ (Ok (Open (looked_at p start most)), x)
      unfolding result_of
      result_open e = rw (le-ltb found (start + looked) none, ne_eqb (start + looked) (sets n k) e)

    -- What holds in each of the three cases holds of the result.
    pub by_result : (Q : Result Surveyed Refusal × List ℕ → Type 0)
        → (found_from p start most < start + looked_at p start most → Q (failing_at start (found_from p start most)))
        → (start + looked_at p start most ≤ found_from p start most → start + looked_at p start most ≡ sets n k
        → Q (Ok (Done (looked_at p start most)), x))
        → (start + looked_at p start most ≤ found_from p start most → (start + looked_at p start most ≡ sets n k → ⊥)
        → Q (Ok (Open (looked_at p start most)), x))
        → Q (result_of p start most x)
    by_result Q failing done opened =
        go (dec_lt found (start + looked)) (ℕ_discrete (start + looked) (sets n k))
      where
        go : Dec (found < start + looked) → Dec (start + looked ≡ sets n k) → Q (result_of p start most x)
        go (yes h) m = rw (result_failing h) (failing h)
        go (no h) (yes e) =
            let l : start + looked ≤ found = omega arith in
            rw (result_done l e) (done l e)
        go (no h) (no e) =
            let l : start + looked ≤ found = omega arith in
            rw (result_open l e) (opened l e)
