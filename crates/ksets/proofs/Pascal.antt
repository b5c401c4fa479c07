-- How many sets there are: none where k is above n, one where n is k, and at most 2704156 up to 24 nodes.
use mathlib.Core.Path.{◌≡◌, refl, sym, ap, ap₂, ◌∙◌}
use mathlib.Core.Bool.{cond}
use mathlib.Core.List.{List, [], ◌∷◌}
use Prim.Native.Nat.{ℕ, zero, suc, ◌+◌, ◌-◌, ◌*◌, ◌/◌, ◌≤◌, ◌<◌}
use native.Mathlib.Nat.{not-suc-le-zero, le_of_suc-le-suc, le_trans, zero-add, add-zero}
use native.Mathlib.Nat.{mul-zero, mul_comm, mul-add, suc-mul, mul-le-mul, mul-div_cancel_left}
use native.Mathlib.Decide.{dec_lt}
use native.Mathlib.Omega.{arith}
use native.Mathlib.Numerals.{sub-one}
use lib.Dec.{leb}
use lib.ListN.{length, get_or, replicate, set, get_or-replicate, get_or-eq_default}
use borrow.Author.Tests.{le-leb, lt-leb}
use Rattle.lists.specs.Listed.{listed}
use Rattle.lists.proofs.Listed.{listed_length, listed_at, listed_ext}
use Rattle.ksets.specs.Sets.{sets}
use Rattle.ksets.specs.Workers.{next_at}

pub sets_none : (n k : ℕ) → n < k → sets n k ≡ 0
unfolding sets
sets_none n zero h = absurd (not-suc-le-zero h)
sets_none zero (suc k) h = refl
sets_none (suc n) (suc k) h = omega (arith, sets_none n (suc k) (omega arith), sets_none n k (omega arith))

pub sets_some : (n k : ℕ) → k ≤ n → 0 < sets n k
unfolding sets
sets_some zero zero h = omega arith
sets_some (suc n) zero h = omega arith
sets_some zero (suc k) h = absurd (not-suc-le-zero h)
sets_some (suc n) (suc k) h = omega (arith, sets_some n k (omega arith))

pub sets_zero : (n : ℕ) → sets n 0 ≡ 1
unfolding sets
sets_zero zero = refl
sets_zero (suc n) = refl

-- all nodes: one set
pub sets_whole : (n k : ℕ) → n ≤ k → sets n k ≤ 1
unfolding sets
sets_whole zero zero h = omega arith
sets_whole (suc n) zero h = omega arith
sets_whole zero (suc k) h = omega arith
sets_whole (suc n) (suc k) h = omega (arith, sets_none n (suc k) (omega arith), sets_whole n k (omega arith))

-- ---- more nodes, more sets
sets_more : (n k : ℕ) → sets n k ≤ sets (suc n) k
unfolding sets
sets_more zero zero = omega arith
sets_more (suc n) zero = omega arith
sets_more n (suc k) = omega arith

sets_up : (d n m k : ℕ) → n + d ≡ m → sets n k ≤ sets m k
sets_up zero n m k e = rw (sym e, add-zero) (omega arith)
sets_up (suc d) n m k e = le_trans (sets_more n k) (sets_up d (suc n) m k (omega arith))

-- ---- Pascal's rows
pascal : (n k : ℕ) → sets n (suc k) + sets n k ≡ sets (suc n) (suc k)
unfolding sets
pascal n k = refl

row_next : (n : ℕ) → listed 25 (next_at (listed 25 (sets n))) ≡ listed 25 (sets (suc n))
unfolding next_at
row_next n = listed_ext 25 _ (sets (suc n)) (entry n)
  where
    entry : (n k : ℕ) → k < 25 → next_at (listed 25 (sets n)) k ≡ sets (suc n) k
    entry n zero h = sym (sets_zero (suc n))
    entry n (suc k) h =
        rw (listed_at 25 (sets n) (suc k) 0 h, listed_at 25 (sets n) k 0 (omega arith)) (pascal n k)

-- an entry at the code's numbers
pub next_first : (row : List ℕ) → 1 ≡ next_at row 0
unfolding next_at
next_first row = refl

pub next_at_lem : (row : List ℕ) (k : ℕ) → 1 ≤ k → get_or row k 0 + get_or row (k - 1) 0 ≡ next_at row k
unfolding next_at
next_at_lem row zero h = absurd (not-suc-le-zero h)
next_at_lem row (suc k) h = rw sub-one

pub row_first : set (replicate 25 0) 0 1 ≡ listed 25 (sets 0)
unfolding listed sets
row_first = refl

-- ---- the largest number of sets
-- each entry and the one before it
sums : ℕ → List ℕ → List ℕ
sums c [] = []
sums c (x ∷ xs) = (c + x) ∷ sums x xs

rows : ℕ → List ℕ
rows zero = 1 ∷ replicate 24 0
rows (suc n) = sums 0 (rows n)

larger : ℕ → ℕ → ℕ
larger x y = cond (leb x y) y x

most : List ℕ → ℕ
most [] = 0
most (x ∷ xs) = larger x (most xs)

test : most (rows 24) ≡ 2704156
unfolding most larger rows sums
test = refl

larger_both : (x y : ℕ) → (x ≤ larger x y) × (y ≤ larger x y)
unfolding larger
larger_both x y = go (dec_lt y x)
  where
    go : Dec (y < x) → (x ≤ cond (leb x y) y x) × (y ≤ cond (leb x y) y x)
    go (yes h) = rw (lt-leb x y h) (omega arith)
    go (no h) = rw (le-leb x y (omega arith)) (omega arith)

most_at : (xs : List ℕ) (k : ℕ) → get_or xs k 0 ≤ most xs
unfolding most
most_at [] zero = omega arith
most_at [] (suc k) = omega arith
most_at (x ∷ xs) zero = (larger_both x (most xs)).0
most_at (x ∷ xs) (suc k) = le_trans (most_at xs k) (larger_both x (most xs)).1

sums_length : (c : ℕ) (xs : List ℕ) → length (sums c xs) ≡ length xs
unfolding sums
sums_length c [] = refl
sums_length c (x ∷ xs) = ap suc (sums_length x xs)

sums_at : (c : ℕ) (xs : List ℕ) (k : ℕ) → suc k < length xs
    → get_or (sums c xs) (suc k) 0 ≡ get_or xs (suc k) 0 + get_or xs k 0
unfolding sums
sums_at c [] k h = absurd (not-suc-le-zero h)
sums_at c (x ∷ []) k h = absurd (not-suc-le-zero (le_of_suc-le-suc h))
sums_at c (x ∷ y ∷ ys) zero h = omega arith
sums_at c (x ∷ y ∷ ys) (suc k) h = sums_at x (y ∷ ys) k (omega arith)

sums_first : (xs : List ℕ) → get_or (sums 0 xs) 0 0 ≡ get_or xs 0 0
unfolding sums
sums_first [] = refl
sums_first (x ∷ xs) = zero-add x

rows_length : (n : ℕ) → length (rows n) ≡ 25
unfolding rows
rows_length zero = refl
rows_length (suc n) = sums_length 0 (rows n) ∙ rows_length n

rows_at : (n k : ℕ) → k < 25 → get_or (rows n) k 0 ≡ sets n k
unfolding sets rows
rows_at zero zero h = refl
rows_at zero (suc k) h = get_or-replicate 24 k 0 0 (omega arith)
rows_at (suc n) zero h = sums_first (rows n) ∙ rows_at n zero h ∙ sets_zero n
rows_at (suc n) (suc k) h =
    sums_at 0 (rows n) k (omega (arith, rows_length n))
    ∙ ap₂ (λ (u v : ℕ). u + v) (rows_at n (suc k) h) (rows_at n k (omega arith))

pub sets_bound : (n k : ℕ) → n ≤ 24 → sets n k ≤ 2704156
sets_bound n k h = le_trans (sets_up (24 - n) n 24 k (omega arith)) (go (dec_lt k 25))
  where
    go : Dec (k < 25) → sets 24 k ≤ 2704156
    go (yes l) = omega (arith, rows_at 24 k l, most_at (rows 24) k, test)
    go (no l) = omega (arith, sets_none 24 k (omega arith))

-- ---- 'with or without the last node' is the same number as with or without the first, and those with it are k of n
absorb : (n k : ℕ) → suc k * sets (suc n) (suc k) ≡ suc n * sets n k
unfolding sets
absorb zero zero = refl
absorb (suc n) zero = omega (arith, absorb n zero, sets_zero n)
absorb zero (suc k) = omega (arith, mul-zero (suc (suc k)))
absorb (suc n) (suc k) =
    let A : ℕ = sets (suc n) (suc (suc k)) in
    let B : ℕ = sets (suc n) (suc k) in
    let p : suc (suc k) * A ≡ suc n * sets n (suc k) = absorb n (suc k) in
    let q : suc k * B ≡ suc n * sets n k = absorb n k in
    let r : suc n * B ≡ suc n * sets n (suc k) + suc n * sets n k = mul-add (suc n) (sets n (suc k)) (sets n k) in
    mul-add (suc (suc k)) A B
    ∙ omega (arith, p, q, r, suc-mul (suc k) B, suc-mul (suc n) B)

-- at the code's numbers: the sets with the first node, and those without it
share_times : (n k : ℕ) → 0 < n → 0 < k → sets n k * k ≡ n * sets (n - 1) (k - 1)
share_times zero k h l = absurd (not-suc-le-zero h)
share_times (suc n) zero h l = absurd (not-suc-le-zero l)
share_times (suc n) (suc k) h l = rw (sub-one, sub-one) (mul_comm (sets (suc n) (suc k)) (suc k) ∙ absorb n k)

pub share_fits : (n k : ℕ) → n ≤ 24 → 0 < n → 0 < k → sets n k * k ≤ 24 * 2704156
share_fits n k f h l =
    rw (share_times n k h l) (mul-le-mul f (sets_bound (n - 1) (k - 1) (omega arith)))

pub share_is : (n k : ℕ) → 0 < n → 0 < k → sets n k * k / n ≡ sets (n - 1) (k - 1)
share_is n k h l = rw (share_times n k h l) (mul-div_cancel_left (sets (n - 1) (k - 1)) h)

pub rule : (n k : ℕ) → 0 < n → 0 < k → sets n k ≡ sets (n - 1) k + sets (n - 1) (k - 1)
rule zero k h l = absurd (not-suc-le-zero h)
rule (suc n) zero h l = absurd (not-suc-le-zero l)
rule (suc n) (suc k) h l = rw (sub-one, sub-one) (sym (pascal n k))

-- ---- what the rows' function needs
pub row_fits : (n : ℕ) → n ≤ 24 → (row : List ℕ) → row ≡ listed 25 (sets n) → (k : ℕ) → get_or row k 0 ≤ 4194304
row_fits n h row e k = rw e (go (dec_lt k 25))
  where
    go : Dec (k < 25) → get_or (listed 25 (sets n)) k 0 ≤ 4194304
    go (yes l) = omega (arith, listed_at 25 (sets n) k 0 l, sets_bound n k h)
    go (no l) =
        let size : length (listed 25 (sets n)) ≤ k = omega (arith, listed_length 25 (sets n)) in
        omega (arith, get_or-eq_default (listed 25 (sets n)) 0 size)

pub row_more : (n : ℕ) → 0 < n → (row : List ℕ) → row ≡ listed 25 (sets (n - 1))
    → listed 25 (next_at row) ≡ listed 25 (sets n)
row_more zero h row e = absurd (not-suc-le-zero h)
row_more (suc n) h row e = rw (e, sub-one) (row_next n)

pub row_at : (n k : ℕ) (row : List ℕ) → row ≡ listed 25 (sets n) → k < 25 → get_or row k 0 ≡ sets n k
row_at n k row e h = rw e (listed_at 25 (sets n) k 0 h)
