-- The tests of a node list decide: whether it is accepted, and whether reading back from its nodes is ambiguous.
use mathlib.Core.Path.{refl}
use mathlib.Core.Bool.{false≢true}
use mathlib.Core.List.{List, [], ◌∷◌}
use Prim.Native.Nat.{ℕ, zero, suc, ◌≤◌, ◌<◌}
use Rattle.ksets.specs.Sets.{RisingFrom, none, next, Rising}
use Rattle.document.specs.declared.Profile.{Profile}
use Rattle.document.specs.Refusals.{Decides}
use Rattle.document.specs.Profile.{Accepted}
use Rattle.document.specs.Reading.{list_accepted, ambiguous}
use Rattle.document.proofs.Decides.{decides_le, decides_lt, decides_both, decides_same}
use Rattle.document.proofs.Reading.{TwoEncoded, ambiguous_two, two_ambiguous}

-- a rising list, by its first number and the rest
rising_parts : {n b k x : ℕ} {xs : List ℕ} → RisingFrom n b (suc k) (x ∷ xs)
    → (b ≤ x) × ((x < n) × RisingFrom n (suc x) k xs)
rising_parts (next low high rest) = (low, (high, rest))

rising_more : {n b x : ℕ} {xs : List ℕ} → RisingFrom n b 0 (x ∷ xs) → ⊥
rising_more = elim [ ]

rising_less : {n b k : ℕ} → RisingFrom n b (suc k) [] → ⊥
rising_less = elim [ ]

pub decides_list_accepted : (n k b : ℕ) (nodes : List ℕ) → Decides (list_accepted n b k nodes) (RisingFrom n b k nodes)
unfolding list_accepted
decides_list_accepted n zero b [] = ((λ e. none), λ r. refl)
decides_list_accepted n zero b (x ∷ xs) = ((λ e. absurd (false≢true e)), λ r. absurd (rising_more r))
decides_list_accepted n (suc k) b [] = ((λ e. absurd (false≢true e)), λ r. absurd (rising_less r))
decides_list_accepted n (suc k) b (x ∷ xs) =
    decides_same _
    (decides_both _ _ (decides_le b x) (decides_both _ _ (decides_lt x n) (decides_list_accepted n k (suc x) xs)))
    (λ h. next h.0 h.1.0 h.1.1) rising_parts

-- For k named nodes of an accepted profile the test of refusal 10 decides its sentence, of encoded arrays.
pub decides_ambiguous : (p : Profile) → Accepted p → (nodes : List ℕ) → Rising p.n p.k nodes
    → Decides (ambiguous p nodes) (TwoEncoded p nodes)
decides_ambiguous p acc nodes rises = (ambiguous_two p acc nodes rises, two_ambiguous p acc nodes rises)
