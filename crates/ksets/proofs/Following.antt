-- The next set is the set at the next position.
use mathlib.Core.Path.{◌≡◌, refl, sym, ap, ap₂, ◌∙◌}
use mathlib.Core.Bool.{Bool, true, false, ◌&&◌}
use mathlib.Core.List.{List, [], ◌∷◌}
use Prim.Native.Nat.{ℕ, zero, suc, ◌+◌, ◌-◌, ◌≤◌, ◌<◌}
use native.Mathlib.Nat.{not-suc-le-zero, add-zero, zero-add}
use native.Mathlib.Decide.{ℕ_discrete, dec_lt}
use native.Mathlib.Omega.{arith}
use lib.Dec.{leb}
use lib.ListN.{length}
use borrow.Author.Tests.{le-leb, lt-leb}
use Rattle.lists.specs.Listed.{listed}
use Rattle.lists.proofs.Listed.{listed_ext}
use Rattle.ksets.specs.Sets.{sets, set_at, run, full, next_of}
use Rattle.ksets.specs.Workers.{Steps}
use Rattle.ksets.proofs.Pascal.{sets_zero, sets_none, sets_some, sets_whole}
use Rattle.ksets.proofs.Ranked.{no_more, set_with, set_without, by_node, set_length, set_rising, rank_set}

-- ---- the last set, and the others
pub full_cons : (n x : ℕ) (xs : List ℕ) (u v : Bool) → leb n (suc (x + length xs)) ≡ u → full n xs ≡ v
    → full n (x ∷ xs) ≡ (u && v)
unfolding full
full_cons n x xs u v p q = ap₂ (λ (a b : Bool). a && b) p q

-- an entry can be raised
pub free_first : (n x : ℕ) (xs : List ℕ) → suc (x + length xs) < n → full n (x ∷ xs) ≡ false
free_first n x xs h = full_cons n x xs false (full n xs) (lt-leb n (suc (x + length xs)) h) refl

pub full_first : (n x : ℕ) (xs : List ℕ) → n ≤ suc (x + length xs) → full n xs ≡ true → full n (x ∷ xs) ≡ true
full_first n x xs h f = full_cons n x xs true true (le-leb n (suc (x + length xs)) h) f

pub not_full : (m b n k pos : ℕ) → b + n ≡ m → pos + 1 < sets n k → full m (set_at b n k pos) ≡ false
unfolding sets
not_full m b n zero pos e h = absurd (omega (arith, sets_zero n))
not_full m b zero (suc k) pos e h = absurd (not-suc-le-zero h)
not_full m b (suc n) (suc k) pos e h =
    by_node (λ s. full m s ≡ false) b n k pos
    (λ l. first l (dec_lt k n))
    (λ l. not_full m (suc b) n (suc k) (pos - sets n k) (omega arith) (omega arith))
  where
    first : pos < sets n k → Dec (k < n) → full m (b ∷ set_at (suc b) n k pos) ≡ false
    first l (yes d) = free_first m b (set_at (suc b) n k pos) (omega (arith, set_length (suc b) n k pos l))
    first l (no d) = absurd (omega (arith, sets_none n (suc k) (omega arith), sets_whole n k (omega arith)))

all_full : (m b n k pos : ℕ) → b + n ≡ m → pos + 1 ≡ sets n k → full m (set_at b n k pos) ≡ true
unfolding sets full
all_full m b n zero pos e h = rw (no_more b n pos)
all_full m b zero (suc k) pos e h = absurd (omega arith)
all_full m b (suc n) (suc k) pos e h =
    by_node (λ s. full m s ≡ true) b n k pos
    (λ l. first l (dec_lt k n) (λ i. all_full m (suc b) n k pos (omega arith) i))
    (λ l. all_full m (suc b) n (suc k) (pos - sets n k) (omega arith) (omega arith))
  where
    first : pos < sets n k → Dec (k < n) → (pos + 1 ≡ sets n k → full m (set_at (suc b) n k pos) ≡ true)
        → full m (b ∷ set_at (suc b) n k pos) ≡ true
    first l (yes d) f = absurd (omega (arith, sets_some n (suc k) d))
    first l (no d) f =
        full_first m b (set_at (suc b) n k pos) (omega (arith, set_length (suc b) n k pos l))
        (f (omega (arith, sets_none n (suc k) (omega arith))))

-- ---- the first set
run_cons : (b k : ℕ) → run b (suc k) ≡ b ∷ run (suc b) k
unfolding run listed
run_cons b k =
    ap₂ (λ (x : ℕ) (l : List ℕ). x ∷ l) (add-zero b)
    (listed_ext k (λ e. b + suc e) (λ e. suc b + e) (λ e h. omega arith))

run_none : (b : ℕ) → [] ≡ run b 0
unfolding run listed
run_none b = refl

first_set : (b n k : ℕ) → k ≤ n → set_at b n k 0 ≡ run b k
first_set b n zero h = no_more b n 0 ∙ run_none b
first_set b zero (suc k) h = absurd (not-suc-le-zero h)
first_set b (suc n) (suc k) h =
    set_with b n k 0 (sets_some n k (omega arith))
    ∙ ap (λ (l : List ℕ). b ∷ l) (first_set (suc b) n k (omega arith))
    ∙ sym (run_cons b k)

-- ---- the next set
pub next_later : (n x : ℕ) (xs : List ℕ) → full n xs ≡ false → next_of n (x ∷ xs) ≡ x ∷ next_of n xs
unfolding next_of
next_later n x xs f = rw f

pub next_here : (n x : ℕ) (xs : List ℕ) → full n xs ≡ true → next_of n (x ∷ xs) ≡ run (suc x) (suc (length xs))
unfolding next_of
next_here n x xs f = rw f

following : (m b n k pos : ℕ) → b + n ≡ m → pos + 1 < sets n k → next_of m (set_at b n k pos) ≡ set_at b n k (pos + 1)
unfolding sets
following m b n zero pos e h = absurd (omega (arith, sets_zero n))
following m b zero (suc k) pos e h = absurd (not-suc-le-zero h)
following m b (suc n) (suc k) pos e h =
    by_node (λ s. next_of m s ≡ set_at b (suc n) (suc k) (pos + 1)) b n k pos
    (λ l. with_first l (ℕ_discrete (pos + 1) (sets n k)) (λ i. following m (suc b) n k pos (omega arith) i))
    (λ l.
    let q : pos + 1 - sets n k ≡ pos - sets n k + 1 = omega arith in
    following m (suc b) n (suc k) (pos - sets n k) (omega arith) (omega arith)
    ∙ ap (set_at (suc b) n (suc k)) (sym q)
    ∙ sym (set_without b n k (pos + 1) (omega arith)))
  where
    with_first : pos < sets n k → Dec (pos + 1 ≡ sets n k)
        → (pos + 1 < sets n k → next_of m (set_at (suc b) n k pos) ≡ set_at (suc b) n k (pos + 1))
        → next_of m (b ∷ set_at (suc b) n k pos) ≡ set_at b (suc n) (suc k) (pos + 1)
    with_first l (no d) f =
        let i : pos + 1 < sets n k = omega arith in
        next_later m b _ (not_full m (suc b) n k pos (omega arith) i)
        ∙ ap (λ (s : List ℕ). b ∷ s) (f i)
        ∙ sym (set_with b n k (pos + 1) i)
    with_first l (yes d) f =
        let z : pos + 1 - sets n k ≡ 0 = omega arith in
        next_here m b _ (all_full m (suc b) n k pos (omega arith) d)
        ∙ ap (λ (j : ℕ). run (suc b) (suc j)) (set_length (suc b) n k pos l)
        ∙ sym (first_set (suc b) n (suc k) (enough (dec_lt k n)))
        ∙ ap (set_at (suc b) n (suc k)) (sym z)
        ∙ sym (set_without b n k (pos + 1) (omega arith))
      where
        enough : Dec (k < n) → suc k ≤ n
        enough (yes i) = i
        enough (no i) = absurd (omega (arith, sets_none n (suc k) (omega arith)))

pub next_set : (n k pos : ℕ) → pos + 1 < sets n k → next_of n (set_at 0 n k pos) ≡ set_at 0 n k (pos + 1)
next_set n k pos h = following n 0 n k pos (zero-add n) h

-- a walk through the sets may step from each position but the last
pub steps_at : (n k pos : ℕ) → n ≤ 24 → pos + 1 < sets n k → Steps n (set_at 0 n k pos)
steps_at n k pos f h =
    let l : pos < sets n k = omega arith in
    let size : length (set_at 0 n k pos) ≡ k = set_length 0 n k pos l in
    record {
      few = f;
      rises = rw size (set_rising n k pos l);
      more = rw (size, rank_set n k pos l) h;
    }
