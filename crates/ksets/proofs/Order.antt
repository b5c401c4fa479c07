-- The sets stand in lexicographic order.
use mathlib.Core.Path.{refl, sym, subst}
use mathlib.Core.List.{List, ◌∷◌}
use Prim.Native.Nat.{ℕ, zero, suc, ◌+◌, ◌-◌, ◌<◌}
use native.Mathlib.Nat.{not-suc-le-zero}
use native.Mathlib.Omega.{arith}
use Rattle.ksets.specs.Sets.{sets, set_at, RisingFrom, next, Smaller, here, later}
use Rattle.ksets.proofs.Pascal.{sets_zero}
use Rattle.ksets.proofs.Ranked.{set_without, by_node, risen}

smaller_first : (m b k : ℕ) (xs ys : List ℕ) → RisingFrom m (suc b) (suc k) ys → Smaller (b ∷ xs) ys
smaller_first m b k xs mathlib.Core.List.[] x' = elim x' [ ]
smaller_first m b k xs (y ∷ ys) (next h l r) = here h

ordered : (b n k pos late : ℕ) → pos < late → late < sets n k → Smaller (set_at b n k pos) (set_at b n k late)
unfolding sets
ordered b n zero pos late h l = absurd (omega (arith, sets_zero n))
ordered b zero (suc k) pos late h l = absurd (not-suc-le-zero l)
ordered b (suc n) (suc k) pos late h l =
    by_node (λ s. Smaller s (set_at b (suc n) (suc k) late)) b n k pos
    (λ i.
    by_node (λ t. Smaller (b ∷ set_at (suc b) n k pos) t) b n k late
    (λ j. later (ordered (suc b) n k pos late h j))
    (λ j.
    smaller_first (suc b + n) b k _ _
    (risen (suc b + n) (suc b) n (suc k) (late - sets n k) refl (omega arith))))
    (λ i.
    subst (λ (t : List ℕ). Smaller (set_at (suc b) n (suc k) (pos - sets n k)) t)
    (sym (set_without b n k late (omega arith)))
    (ordered (suc b) n (suc k) (pos - sets n k) (late - sets n k) (omega arith) (omega arith)))

pub set_order : (n k pos late : ℕ) → pos < late → late < sets n k → Smaller (set_at 0 n k pos) (set_at 0 n k late)
set_order n k pos late h l = ordered 0 n k pos late h l
