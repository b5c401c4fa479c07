-- Tests that decide: comparisons of numbers, lists and places, both of two, all of some, and the contrary.
use mathlib.Core.Path.{◌≡◌, refl, ap, ap₂}
use mathlib.Core.Bool.{Bool, true, false, ◌&&◌, not, false≢true}
use mathlib.Core.List.{List, [], ◌∷◌}
use Prim.Native.Nat.{ℕ, zero, suc, ◌≤◌, ◌<◌}
use native.Mathlib.Nat.{not-suc-le-zero}
use native.Mathlib.Decide.{ℕ_discrete}
use native.Mathlib.Omega.{arith}
use lib.Dec.{leb, ltb, eqb}
use lib.ListN.{length, get_or, drop}
use borrow.Author.Tests.{leb-true, ltb-true, eqb-true, le-leb, lt-ltb, eq-eqb}
use Rattle.lists.specs.Listed.{all}
use Rattle.lists.specs.Put.{same}
use Rattle.document.specs.declared.Place.{Place}
use Rattle.document.specs.Places.{place, same_place}
use Rattle.document.specs.Refusals.{Decides}

pub decides_le : (a b : ℕ) → Decides (leb a b) (a ≤ b)
decides_le a b = (leb-true a b, le-leb a b)

pub decides_lt : (a b : ℕ) → Decides (ltb a b) (a < b)
decides_lt a b = (ltb-true a b, lt-ltb a b)

pub decides_eq : (a b : ℕ) → Decides (eqb a b) (a ≡ b)
decides_eq a b = (eqb-true a b, eq-eqb a b)

pub decides_both : {P Q : Type 0} (a b : Bool) → Decides a P → Decides b Q → Decides (a && b) (P × Q)
decides_both true b p q = ((λ e. (p.0 refl, q.0 e)), λ h. q.1 h.1)
decides_both false b p q = ((λ e. absurd (false≢true e)), λ h. p.1 h.0)

pub decides_not : {P : Type 0} (b : Bool) → Decides b P → Decides (not b) (P → ⊥)
decides_not true p = ((λ e h. false≢true e), λ n. absurd (n (p.0 refl)))
decides_not false p = ((λ e h. false≢true (p.1 h)), λ n. refl)

-- a test that decides what two propositions both come to
pub decides_same : {P Q : Type 0} (b : Bool) → Decides b P → (P → Q) → (Q → P) → Decides b Q
decides_same b p f g = ((λ e. f (p.0 e)), λ q. p.1 (g q))

-- what does not hold is not found to hold
pub decides_false : {P : Type 0} (b : Bool) → Decides b P → (P → ⊥) → b ≡ false
decides_false true p n = absurd (n (p.0 refl))
decides_false false p n = refl

pub decides_list : (xs ys : List ℕ) → Decides (same xs ys) (xs ≡ ys)
unfolding same
decides_list [] [] = ((λ e. refl), λ e. refl)
decides_list [] (y ∷ ys) = ((λ e. absurd (false≢true e)), λ e. absurd (omega (arith, ap length e)))
decides_list (x ∷ xs) [] = ((λ e. absurd (false≢true e)), λ e. absurd (omega (arith, ap length e)))
decides_list (x ∷ xs) (y ∷ ys) =
    decides_same _ (decides_both _ _ (decides_eq x y) (decides_list xs ys)) (λ h. ap₂ ◌∷◌ h.0 h.1)
    (λ e. (ap (λ (l : List ℕ). get_or l 0 0) e, ap (drop 1) e))

pub decides_all : {Q : ℕ → Type 0} (n : ℕ) (P : ℕ → Bool) → ((i : ℕ) → Decides (P i) (Q i))
    → Decides (all n P) ((i : ℕ) → i < n → Q i)
unfolding all
decides_all zero P d = ((λ e i h. absurd (not-suc-le-zero h)), λ h. refl)
decides_all {Q} (suc n) P d =
    decides_same _ (decides_both _ _ (decides_all n P d) (d n)) both
    (λ h. ((λ i l. h i (omega arith)), h n (omega arith)))
  where
    both : ((i : ℕ) → i < n → Q i) × Q n → (i : ℕ) → i < suc n → Q i
    both h i l = go (ℕ_discrete i n)
      where
        go : Dec (i ≡ n) → Q i
        go (yes e) = rw e h.1
        go (no e) = h.0 i (omega arith)

pub decides_place : (q r : Place) → Decides (same_place q r) (q ≡ r)
unfolding same_place
decides_place q r =
    decides_same _ (decides_both _ _ (decides_eq q.node.0 r.node.0) (decides_eq q.row.0 r.row.0))
    (λ h. ap₂ place h.0 h.1) (λ e. (ap (λ (q : Place). q.node.0) e, ap (λ (q : Place). q.row.0) e))

-- what is decided and not refuted holds
pub decided : {P : Type 0} (b : Bool) → Decides b P → ((P → ⊥) → ⊥) → P
decided true d n = d.0 refl
decided false d n = absurd (n (λ h. false≢true (d.1 h)))
