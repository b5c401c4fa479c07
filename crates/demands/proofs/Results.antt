-- The result of a survey, for an accepted start: what it says of the sets, and the results of two ranges one after the
-- other.
use Rattle.std.specs.Prelude.{Result, Ok}
use mathlib.Core.Path.{◌≡◌, sym, ap, subst, ◌∙◌}
use mathlib.Core.Bool.{false≢true}
use mathlib.Core.List.{List}
use Prim.Native.Nat.{ℕ, ◌+◌, ◌-◌, ◌≤◌, ◌<◌}
use native.Mathlib.Omega.{arith}
use Rattle.ksets.specs.Sets.{sets, set_at}
use Rattle.ksets.proofs.Ranked.{set_rising}
use Rattle.document.specs.declared.Profile.{Profile}
use Rattle.document.specs.declared.Surveyed.TheVariants.{Done, Open}
use Rattle.document.specs.Profile.{Accepted}
use Rattle.document.specs.Survey.{first_in, fails_at, looked_at, found_from, result_of}
use Rattle.document.proofs.Surveys.{
  First,
  first_found,
  first_early,
  first_late,
  failing_at,
  result_failing,
  result_done,
  result_open,
  by_result,
}
use Rattle.demands.specs.Survey.{NoneFails, Tells, failing, done, left_open, joined_outcome, TestOfFailing}
use Rattle.demands.proofs.Reading.{decides_two}

-- the test of a set decides whether it fails
pub set_decided : TestOfFailing
unfolding fails_at
set_decided p acc pos h = decides_two p acc (set_at 0 p.n p.k pos) (set_rising p.n p.k pos h)

-- ---- what a result says
module _ (p : Profile) (acc : Accepted p) (start most : ℕ) (x : List ℕ) (within : start ≤ sets p.n p.k) where
  open p use {n, k}

  abbrev looked : ℕ
  looked = looked_at p start most

  abbrev found : ℕ
  found = found_from p start most

  is_first : First (fails_at p) start (looked_at p start most) (found_from p start most)
  unfolding found_from
  is_first = first_found (fails_at p) start (looked_at p start most)

  -- no set before the one that was found fails
  none_before : (to : ℕ) → to ≤ sets n k → to ≤ found_from p start most → NoneFails p start to
  none_before to inside early pos low high fails =
      false≢true
      (sym (is_first.before pos low (omega arith)) ∙ (set_decided p acc pos (omega arith)).1 fails)

  pub result_tells : Tells p start most x (result_of p start most x)
  result_tells =
      by_result p start most x (Tells p start most x)
      (λ h.
      let below : found < sets n k = omega arith in
      failing is_first.low below ((set_decided p acc found below).0 (is_first.holds h))
      (none_before found (omega arith) (omega arith)) (omega (arith, is_first.low))
      (omega (arith, is_first.low)))
      (λ h e. done (none_before (sets n k) (omega arith) (omega arith)) e (omega arith))
      (λ h e.
      let all : looked ≡ most = omega arith in
      subst (λ (m : ℕ). Tells p start most x (Ok (Open m), x)) (sym all)
      (left_open (none_before (start + most) (omega arith) (omega arith))
      (omega arith)))

-- ---- two ranges, one after the other
module _ (p : Profile) (start most more : ℕ) (x : List ℕ) (within : start ≤ sets p.n p.k) where
  open p use {n, k}

  -- the numbers of sets looked at in the first, in the second, and in both
  abbrev first : ℕ
  first = looked_at p start most

  abbrev second : ℕ
  second = looked_at p (start + most) more

  abbrev both : ℕ
  both = looked_at p start (most + more)

  -- a set of the first range fails
  pub join_failing : found_from p start most < start + looked_at p start most
      → result_of p start (most + more) x ≡ failing_at p start (found_from p start most)
  unfolding found_from
  join_failing h =
      let more_looked : first ≤ both = omega arith in
      let e : both ≡ first + (both - first) = omega arith in
      let same : found_from p start (most + more) ≡ found_from p start most =
      ap (first_in (fails_at p) start) e ∙ first_early (fails_at p) start first (both - first) h in
      result_failing p start (most + more) x (omega arith) ∙ ap (failing_at p start) same

  -- none does, and none is left
  pub join_done : start + looked_at p start most ≤ found_from p start most → start + looked_at p start most ≡ sets n k
      → result_of p start (most + more) x ≡ (Ok (Done (looked_at p start most)), x)
  unfolding found_from
  join_done h e =
      let same : both ≡ first = omega arith in
      let found : found_from p start (most + more) ≡ found_from p start most = ap (first_in (fails_at p) start) same in
      result_done p start (most + more) x (omega arith) (omega arith) ∙ cc

  -- none does, and some are left: the second survey goes on
  pub join_open : start + most < sets n k → start + looked_at p start most ≤ found_from p start most
      → result_of p start (most + more) x
      ≡ joined_outcome (Ok (Open (looked_at p start most)), x) (result_of p (start + most) more x)
  unfolding found_from
  join_open left h =
      by_result p (start + most) more x
      (λ t. result_of p start (most + more) x ≡ joined_outcome (Ok (Open (looked_at p start most)), x) t)
      (λ l.
      let added : found_from p (start + most) more - start + 1
      ≡ first + (found_from p (start + most) more - (start + most) + 1) =
      omega (arith, all, (first_found (fails_at p) (start + most) second).low) in
      result_failing p start (most + more) x (omega (arith, same, size)) ∙ ap (failing_at p start) same ∙ cc)
      (λ l e.
      let added : both ≡ first + second = omega (arith, all, size) in
      result_done p start (most + more) x (omega (arith, same, size)) (omega (arith, size)) ∙ cc)
      (λ l e.
      let added : both ≡ first + second = omega (arith, all, size) in
      result_open p start (most + more) x (omega (arith, same, size)) (λ d. e (omega (arith, size))) ∙ cc)
    where
      all : first ≡ most
      all = omega arith

      size : both ≡ most + second
      size = omega arith

      same : found_from p start (most + more) ≡ found_from p (start + most) more
      same =
          ap (first_in (fails_at p) start) size
          ∙ first_late (fails_at p) start most second (omega (arith, all, ap (first_in (fails_at p) start) all))
