-- The answer of a survey, by what is found on the way.
use Rattle.std.specs.Prelude.{Ok, Err}
use mathlib.Core.Path.{◌≡◌, sym, ap, ◌∙◌}
use mathlib.Core.List.{List}
use Prim.Native.Nat.{ℕ, ◌+◌, ◌-◌, ◌≤◌, ◌<◌}
use native.Mathlib.Omega.{arith}
use lib.ListN.{length}
use borrow.Author.Tests.{lt-ltb, le-ltb, eq-eqb, ne_eqb}
use Rattle.ksets.specs.Sets.{sets, set_at}
use Rattle.document.specs.declared.Profile.{Profile}
use Rattle.document.specs.declared.Refusal.TheVariants.{OutOfRange, BufferLength}
use Rattle.document.specs.declared.Surveyed.TheVariants.{Failing, Done, Open}
use Rattle.document.specs.Refusals.{tried}
use Rattle.document.specs.Survey.{fails_at, first_in, looked_at, found_from, result_of, survey_tests, survey_with}
use Rattle.document.proofs.Surveys.{failing_at, result_failing, result_done, result_open}

-- a survey that is not refused, by the number of sets to look at and what the search among them found
module _ (p : Profile) (start most : ℕ) (x : List ℕ) where
  open p use {n, k}

  module _ (looked found : ℕ) (l : looked ≡ looked_at p start most)
      (f : found ≡ first_in (fails_at p) start (start + looked - start)) where
    same_found : found ≡ found_from p start most
    unfolding found_from
    same_found =
        let w : start + looked - start ≡ looked_at p start most = omega (arith, l) in
        f ∙ ap (first_in (fails_at p) start) w

    pub failing : found < start + looked → (y : List ℕ) → y ≡ set_at 0 n k found
        → (Ok (Failing found (found - start + 1)), y) ≡ result_of p start most x
    failing h y e =
        ap (λ (z : List ℕ). (Ok (Failing found (found - start + 1)), z)) e ∙ ap (failing_at p start) same_found
        ∙ sym (result_failing p start most x (omega (arith, l, same_found)))

    module _ (h : start + looked ≤ found) where
      none : start + looked_at p start most ≤ found_from p start most
      none = omega (arith, l, same_found)

      pub done : start + looked ≡ sets n k → (Ok (Done looked), x) ≡ result_of p start most x
      done e = ap (λ (m : ℕ). (Ok (Done m), x)) l ∙ sym (result_done p start most x none (omega (arith, l)))

      pub left_open : (start + looked ≡ sets n k → ⊥) → (Ok (Open looked), x) ≡ result_of p start most x
      left_open e = ap (λ (m : ℕ). (Ok (Open m), x)) l ∙ sym (result_open p start most x none (λ d. e (omega (arith, l))))

-- the refusals, in their order
module _ (p : Profile) (start most : ℕ) (x : List ℕ) where
  pub start_refused : sets p.n p.k < start → (Err OutOfRange, x) ≡ survey_with p start most x
  unfolding survey_with survey_tests tried
  start_refused h = sym (simp (lt-ltb _ _ h))

  module _ (h : start ≤ sets p.n p.k) where
    pub set_refused : (length x ≡ p.k → ⊥) → (Err BufferLength, x) ≡ survey_with p start most x
    unfolding survey_with survey_tests tried
    set_refused w = sym (simp (le-ltb _ _ h, ne_eqb _ _ w))

    pub answered : length x ≡ p.k → result_of p start most x ≡ survey_with p start most x
    unfolding survey_with survey_tests tried
    answered w = sym (simp (le-ltb _ _ h, eq-eqb _ _ w))
