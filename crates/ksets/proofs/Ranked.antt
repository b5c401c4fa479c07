-- The positions below `sets n k` and the rising lists of k numbers below n are the same things: the set at a position
-- rises and has that position, and a rising list stands at its position.
use mathlib.Core.Path.{◌≡◌, refl, sym, ap, subst, ◌∙◌}
use mathlib.Core.List.{List, [], ◌∷◌}
use Prim.Native.Nat.{ℕ, zero, suc, ◌+◌, ◌-◌, ◌≤◌, ◌<◌}
use native.Mathlib.Nat.{not-suc-le-zero, zero-add}
use native.Mathlib.Decide.{ℕ_discrete, dec_lt}
use native.Mathlib.Omega.{arith}
use lib.ListN.{length}
use borrow.Author.Tests.{lt-ltb, le-ltb, eq-eqb, ne_eqb}
use Rattle.ksets.specs.Sets.{sets, set_at, rank_of, RisingFrom, none, next, Rising}
use Rattle.ksets.proofs.Pascal.{sets_zero}

-- ---- the cases of `set_at`
pub no_more : (b n pos : ℕ) → set_at b n 0 pos ≡ []
unfolding set_at
no_more b zero pos = refl
no_more b (suc n) pos = refl

pub set_with : (b n k pos : ℕ) → pos < sets n k → set_at b (suc n) (suc k) pos ≡ b ∷ set_at (suc b) n k pos
unfolding set_at
set_with b n k pos h = rw (lt-ltb pos (sets n k) h)

pub set_without : (b n k pos : ℕ) → sets n k ≤ pos
    → set_at b (suc n) (suc k) pos ≡ set_at (suc b) n (suc k) (pos - sets n k)
unfolding set_at
set_without b n k pos h = rw (le-ltb pos (sets n k) h)

pub by_node : (P : List ℕ → Type 0) (b n k pos : ℕ)
    → (pos < sets n k → P (b ∷ set_at (suc b) n k pos))
    → (sets n k ≤ pos → P (set_at (suc b) n (suc k) (pos - sets n k)))
    → P (set_at b (suc n) (suc k) pos)
by_node P b n k pos f g = go (dec_lt pos (sets n k))
  where
    go : Dec (pos < sets n k) → P (set_at b (suc n) (suc k) pos)
    go (yes h) = subst P (sym (set_with b n k pos h)) (f h)
    go (no h) =
        let l : sets n k ≤ pos = omega arith in
        subst P (sym (set_without b n k pos l)) (g l)

-- ---- rising lists
lower : {n b k : ℕ} {xs : List ℕ} → RisingFrom n (suc b) k xs → RisingFrom n b k xs
lower none = none
lower {n} {b} (next {x = x} h l r) =
    let w : b ≤ x = omega arith in
    next w l r

pub risen_length : {n b k : ℕ} {xs : List ℕ} → RisingFrom n b k xs → length xs ≡ k
risen_length none = refl
risen_length (next h l r) = ap suc (risen_length r)

pub risen : (m b n k pos : ℕ) → b + n ≡ m → pos < sets n k → RisingFrom m b k (set_at b n k pos)
unfolding sets
risen m b n zero pos e h = rw (no_more b n pos) none
risen m b zero (suc k) pos e h = absurd (not-suc-le-zero h)
risen m b (suc n) (suc k) pos e h =
    by_node (RisingFrom m b (suc k)) b n k pos
    (λ l. next (omega arith) (omega arith) (risen m (suc b) n k pos (omega arith) l))
    (λ l. lower (risen m (suc b) n (suc k) (pos - sets n k) (omega arith) (omega arith)))

pub set_length : (b n k pos : ℕ) → pos < sets n k → length (set_at b n k pos) ≡ k
set_length b n k pos h = risen_length (risen (b + n) b n k pos refl h)

pub set_rising : (n k pos : ℕ) → pos < sets n k → Rising n k (set_at 0 n k pos)
set_rising n k pos h = risen n 0 n k pos (zero-add n) h

-- ---- the position of the set at a position
pub rank_here : (b n x : ℕ) (xs : List ℕ) → x ≡ b → rank_of b (suc n) (x ∷ xs) ≡ rank_of (suc b) n xs
unfolding rank_of
rank_here b n x xs e = rw (eq-eqb x b e)

pub rank_other : (b n x : ℕ) (xs : List ℕ) → (x ≡ b → ⊥)
    → rank_of b (suc n) (x ∷ xs) ≡ sets n (length xs) + rank_of (suc b) n (x ∷ xs)
unfolding rank_of
rank_other b n x xs e = rw (ne_eqb x b e)

rank_past : (m b n k : ℕ) (xs : List ℕ) → RisingFrom m (suc b) (suc k) xs
    → rank_of b (suc n) xs ≡ sets n k + rank_of (suc b) n xs
rank_past m b n k [] x' = elim x' [ ]
rank_past m b n k (x ∷ xs) (next h l r) =
    rank_other b n x xs (λ q. omega arith)
    ∙ ap (λ (j : ℕ). sets n j + rank_of (suc b) n (x ∷ xs)) (risen_length r)

pub rank_none : (b n : ℕ) → rank_of b n [] ≡ 0
unfolding rank_of
rank_none b zero = refl
rank_none b (suc n) = refl

ranked : (b n k pos : ℕ) → pos < sets n k → rank_of b n (set_at b n k pos) ≡ pos
unfolding sets
ranked b n zero pos h = rw (no_more b n pos, rank_none b n) (omega (arith, sets_zero n))
ranked b zero (suc k) pos h = absurd (not-suc-le-zero h)
ranked b (suc n) (suc k) pos h =
    by_node (λ s. rank_of b (suc n) s ≡ pos) b n k pos
    (λ l. rank_here b n b _ refl ∙ ranked (suc b) n k pos l)
    (λ l.
    let below : pos - sets n k < sets n (suc k) = omega arith in
    rank_past (suc b + n) b n k _ (risen (suc b + n) (suc b) n (suc k) (pos - sets n k) refl below)
    ∙ ap (λ (r : ℕ). sets n k + r) (ranked (suc b) n (suc k) (pos - sets n k) below)
    ∙ omega arith)

pub rank_set : (n k pos : ℕ) → pos < sets n k → rank_of 0 n (set_at 0 n k pos) ≡ pos
rank_set n k pos h = ranked 0 n k pos h

-- ---- the set at the position of a set
abbrev Stands : ℕ → ℕ → ℕ → List ℕ → Type 0
Stands b n k set = (rank_of b n set < sets n k) × (set_at b n k (rank_of b n set) ≡ set)

stands_here : (b n k : ℕ) (xs : List ℕ) → Stands (suc b) n k xs → Stands b (suc n) (suc k) (b ∷ xs)
unfolding sets
stands_here b n k xs s = (
  omega (arith, rank_here b n b xs refl, s.0),
  ap (set_at b (suc n) (suc k)) (rank_here b n b xs refl) ∙ set_with b n k (rank_of (suc b) n xs) s.0
      ∙ ap (λ (l : List ℕ). b ∷ l) s.1,
)

stands_past : (m b n k : ℕ) (xs : List ℕ) → RisingFrom m (suc b) (suc k) xs → Stands (suc b) n (suc k) xs
    → Stands b (suc n) (suc k) xs
unfolding sets
stands_past m b n k xs r s =
    let e : rank_of b (suc n) xs ≡ sets n k + rank_of (suc b) n xs = rank_past m b n k xs r in
    let d : rank_of b (suc n) xs - sets n k ≡ rank_of (suc b) n xs = omega arith in (
      omega (arith, s.0),
      set_without b n k (rank_of b (suc n) xs) (omega arith) ∙ ap (set_at (suc b) n (suc k)) d ∙ s.1,
    )

stands : (m b n k : ℕ) (xs : List ℕ) → b + n ≡ m → RisingFrom m b k xs → Stands b n k xs
stands m b n zero (x ∷ xs) e x5 = elim x5 [ ]
stands m b zero (suc k) [] e x5 = elim x5 [ ]
stands m b (suc n) (suc k) [] e x6 = elim x6 [ ]
stands m b n zero [] e none = (rw (rank_none b n, sets_zero n) (omega arith), no_more b n _)
stands m b zero (suc k) (x ∷ xs) e (next h l r) = absurd (omega arith)
stands m b (suc n) (suc k) (x ∷ xs) e (next h l r) =
    go (ℕ_discrete x b) (λ q. stands m (suc b) n k xs (omega arith) (subst (λ (y : ℕ). RisingFrom m (suc y) k xs) q r))
    (λ q. stands m (suc b) n (suc k) (x ∷ xs) (omega arith) (next q l r))
  where
    go : Dec (x ≡ b) → (x ≡ b → Stands (suc b) n k xs) → (b < x → Stands (suc b) n (suc k) (x ∷ xs))
        → Stands b (suc n) (suc k) (x ∷ xs)
    go (yes q) here past =
        subst (λ (y : ℕ). Stands b (suc n) (suc k) (y ∷ xs)) (sym q) (stands_here b n k xs (here q))
    go (no q) here past =
        let above : b < x = omega arith in
        stands_past m b n k (x ∷ xs) (next above l r) (past above)

pub set_rank : (n k : ℕ) (set : List ℕ) → Rising n k set
    → (rank_of 0 n set < sets n k) × (set_at 0 n k (rank_of 0 n set) ≡ set)
set_rank n k set r = stands n 0 n k set (zero-add n) r
