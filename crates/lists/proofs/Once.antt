-- A list that lists each number below n for which P holds once: its entries pass and differ, none is missing, and there
-- are as many as there are in the rising list, which is one such list, and so is one by another order of the numbers.
use mathlib.Core.Path.{◌≡◌, refl, sym, ap, ap₂, ◌∙◌}
use mathlib.Core.Logic.{◌≢◌}
use mathlib.Core.Bool.{Bool, true, false, ◌&&◌, cond}
use mathlib.Core.List.{List, [], ◌∷◌, ◌++◌, map}
use Prim.Native.Nat.{ℕ, zero, suc, ◌+◌, ◌≤◌, ◌<◌}
use native.Mathlib.Nat.{zero-add, add-zero, add_assoc, not-suc-le-zero}
use native.Mathlib.Decide.{ℕ_discrete, dec_lt}
use native.Mathlib.Omega.{arith}
use lib.Dec.{eqb, ltb}
use lib.ListN.{length, get_or}
use borrow.Author.Tests.{ltb-true, lt-ltb, le-ltb, eq-eqb, ne_eqb}
use Rattle.lists.specs.Listed.{rising, along}
use Rattle.lists.specs.Each.{Each, none, also, Distinct, empty, new, occurrences, ListsOnce}
use Rattle.lists.proofs.Each.{each_map, each_image}
use Rattle.lists.proofs.Rising.{count_next, count_one}

-- ---- how often a number stands in a list
pub occurrences_none : (j : ℕ) → occurrences j [] ≡ 0
unfolding occurrences
occurrences_none j = refl

pub occurrences_here : (j : ℕ) (xs : List ℕ) → occurrences j (j ∷ xs) ≡ suc (occurrences j xs)
unfolding occurrences
occurrences_here j xs = rw (eq-eqb j j refl) (omega arith)

occurrences_later : (j x : ℕ) (xs : List ℕ) → occurrences j xs ≤ occurrences j (x ∷ xs)
unfolding occurrences
occurrences_later j x xs = omega arith

pub occurrences_other : (j x : ℕ) (xs : List ℕ) → j ≢ x → occurrences j (x ∷ xs) ≡ occurrences j xs
unfolding occurrences
occurrences_other j x xs h = rw (ne_eqb j x h, zero-add)

-- lists that begin alike
pub occurrences_tail : (j x : ℕ) (xs ys : List ℕ) → occurrences j (x ∷ xs) ≡ occurrences j (x ∷ ys)
    → occurrences j xs ≡ occurrences j ys
unfolding occurrences
occurrences_tail j x xs ys e = omega arith

occurrences_append : (j : ℕ) (xs ys : List ℕ) → occurrences j (xs ++ ys) ≡ occurrences j xs + occurrences j ys
unfolding occurrences
occurrences_append j [] ys = sym (zero-add (occurrences j ys))
occurrences_append j (x ∷ xs) ys =
    ap (λ (m : ℕ). cond (eqb j x) 1 0 + m) (occurrences_append j xs ys)
    ∙ sym (add_assoc (cond (eqb j x) 1 0) (occurrences j xs) (occurrences j ys))

-- what holds of each entry holds of a number that stands in the list
pub each_occurs : {R : ℕ → Type 0} {j : ℕ} {xs : List ℕ} → Each R xs → 0 < occurrences j xs → R j
unfolding occurrences
each_occurs none h = absurd (not-suc-le-zero h)
each_occurs {R} {j} (also {x = x} {xs = xs} r rs) h = go (ℕ_discrete j x) (each_occurs rs)
  where
    go : Dec (j ≡ x) → (0 < occurrences j xs → R j) → R j
    go (yes e) later = rw e r
    go (no e) later = later (omega (arith, h, occurrences_other j x xs e))

-- what holds of each number that stands in a list
members : {R : ℕ → Type 0} (xs : List ℕ) → ((j : ℕ) → 0 < occurrences j xs → R j) → Each R xs
members [] h = none
members (x ∷ xs) h =
    also (h x (omega (arith, occurrences_here x xs))) (members xs (λ j l. h j (omega (arith, occurrences_later j x xs))))

absent : (j : ℕ) (xs : List ℕ) → occurrences j xs ≡ 0 → Each (λ y. j ≢ y) xs
absent j xs h = members xs (λ y l e. omega (arith, ap (λ (i : ℕ). occurrences i xs) e))

at_most_once : (xs : List ℕ) → ((j : ℕ) → occurrences j xs ≤ 1) → Distinct xs
at_most_once [] h = empty
at_most_once (x ∷ xs) h =
    new (absent x xs (omega (arith, h x, occurrences_here x xs)))
    (at_most_once xs (λ j. omega (arith, h j, occurrences_later j x xs)))

stands : (j : ℕ) (xs : List ℕ) → 0 < occurrences j xs → (i : ℕ) × (i < length xs) × (get_or xs i 0 ≡ j)
unfolding occurrences
stands j [] h = absurd (not-suc-le-zero h)
stands j (x ∷ xs) h = go (ℕ_discrete j x) (stands j xs)
  where
    go : Dec (j ≡ x) → (0 < occurrences j xs → (i : ℕ) × (i < length xs) × (get_or xs i 0 ≡ j))
        → (i : ℕ) × (i < length (x ∷ xs)) × (get_or (x ∷ xs) i 0 ≡ j)
    go (yes e) later = (0, omega arith, sym e)
    go (no e) later =
        let found = later (omega (arith, occurrences_other j x xs e)) in
        (suc found.0, omega (arith, found.1), found.2)

-- ---- sums over the numbers below n
total : ℕ → (ℕ → ℕ) → ℕ
total zero F = 0
total (suc n) F = total n F + F n

total_ext : (n : ℕ) (F G : ℕ → ℕ) → ((j : ℕ) → j < n → F j ≡ G j) → total n F ≡ total n G
unfolding total
total_ext zero F G h = refl
total_ext (suc n) F G h =
    ap₂ (λ (u v : ℕ). u + v) (total_ext n F G (λ j l. h j (omega arith))) (h n (omega arith))

total_zero : (n : ℕ) → total n (λ j. 0) ≡ 0
unfolding total
total_zero zero = refl
total_zero (suc n) = add-zero (total n (λ j. 0)) ∙ total_zero n

total_add : (n : ℕ) (F G : ℕ → ℕ) → total n (λ j. F j + G j) ≡ total n F + total n G
unfolding total
total_add zero F G = refl
total_add (suc n) F G = omega (arith, total_add n F G)

total_count : (n : ℕ) (P : ℕ → Bool) → total n (λ j. cond (P j) 1 0) ≡ length (rising n P)
unfolding rising total
total_count zero P = refl
total_count (suc n) P = ap (λ (m : ℕ). m + cond (P n) 1 0) (total_count n P) ∙ sym (count_next n P)

-- a list of numbers below n has as many entries as those numbers stand in it
total_occurrences : (n : ℕ) {xs : List ℕ} → Each (λ j. j < n) xs → total n (λ j. occurrences j xs) ≡ length xs
unfolding occurrences
total_occurrences n none = total_zero n
total_occurrences n (also {x = x} {xs = xs} h hs) =
    total_add n (λ j. cond (eqb j x) 1 0) (λ j. occurrences j xs)
    ∙ ap₂ (λ (u v : ℕ). u + v) (total_count n (λ j. eqb j x) ∙ count_one n x h) (total_occurrences n hs)
    ∙ omega arith

-- ---- each number below n for which P holds, once
both : (a b : Bool) → 0 < cond (a && b) 1 0 → (a ≡ true) × (b ≡ true)
both true true h = (refl, refl)
both true false h = absurd (not-suc-le-zero h)
both false b h = absurd (not-suc-le-zero h)

single : (b : Bool) → cond b 1 0 ≤ 1
single true = omega arith
single false = omega arith

module _ (n : ℕ) (P : ℕ → Bool) where
  module _ (xs : List ℕ) (once : ListsOnce n P xs) where
    pub once_each : Each (λ j. (P j ≡ true) × (j < n)) xs
    once_each = members xs (λ j h. passes j (both (ltb j n) (P j) (rw (once j) at h)))
      where
        passes : (j : ℕ) → (ltb j n ≡ true) × (P j ≡ true) → (P j ≡ true) × (j < n)
        passes j e = (e.1, ltb-true j n e.0)

    pub once_distinct : Distinct xs
    once_distinct = at_most_once xs (λ j. rw (once j) (single (ltb j n && P j)))

    pub once_length : length xs ≡ length (rising n P)
    once_length =
        sym (total_occurrences n (each_map (λ j r. r.1) once_each))
        ∙ total_ext n (λ j. occurrences j xs) (λ j. cond (P j) 1 0) (λ j h. once j ∙ simp (lt-ltb j n h))
        ∙ total_count n P

    pub once_has : (j : ℕ) → j < n → P j ≡ true → (i : ℕ) × (i < length xs) × (get_or xs i 0 ≡ j)
    once_has j h e =
        let listed : occurrences j xs ≡ 1 = once j ∙ simp (lt-ltb j n h, e) in
        stands j xs (omega (arith, listed))

pub rising_once : (n : ℕ) (P : ℕ → Bool) → ListsOnce n P (rising n P)
unfolding rising occurrences
rising_once zero P j = simp (le-ltb j 0 (omega arith))
rising_once (suc n) P j =
    occurrences_append j (rising n P) (cond (P n) (n ∷ []) [])
    ∙ ap₂ (λ (u v : ℕ). u + v) (rising_once n P j) (last (eqb j n) (P n) refl)
    ∙ go (ℕ_discrete j n) (dec_lt j n)
  where
    last : (a b : Bool) → eqb j n ≡ a → occurrences j (cond b (n ∷ []) []) ≡ cond (a && b) 1 0
    last true true e = rw e refl
    last true false e = refl
    last false true e = rw e refl
    last false false e = refl

    go : Dec (j ≡ n) → Dec (j < n)
        → cond (ltb j n && P j) 1 0 + cond (eqb j n && P n) 1 0 ≡ cond (ltb j (suc n) && P j) 1 0
    go (yes e) d = rw e (simp (le-ltb n n (omega arith), eq-eqb n n refl, lt-ltb n (suc n) (omega arith)) (omega arith))
    go (no e) (yes d) = simp (lt-ltb j n d, ne_eqb j n e, lt-ltb j (suc n) (omega arith)) (omega arith)
    go (no e) (no d) = simp (le-ltb j n (omega arith), ne_eqb j n e, le-ltb j (suc n) (omega arith))

-- ---- the same in another order
-- j does not stand in a list of other numbers
other_numbers : (j : ℕ) {xs : List ℕ} → Each (λ y. j ≢ y) xs → occurrences j xs ≡ 0
unfolding occurrences
other_numbers j none = refl
other_numbers j (also {x = x} {xs = xs} h hs) = occurrences_other j x xs h ∙ other_numbers j hs

-- the image by a function g that h takes back
occurrences_image : (g h : ℕ → ℕ) {xs : List ℕ} → Each (λ i. h (g i) ≡ i) xs → (j : ℕ) → g (h j) ≡ j
    → occurrences j (map g xs) ≡ occurrences (h j) xs
unfolding occurrences
occurrences_image g h none j there = refl
occurrences_image g h (also {x = x} back backs) j there =
    ap₂ (λ (b : Bool) (m : ℕ). cond b 1 0 + m) (go (ℕ_discrete j (g x))) (occurrences_image g h backs j there)
  where
    go : Dec (j ≡ g x) → eqb j (g x) ≡ eqb (h j) x
    go (yes e) = eq-eqb j (g x) e ∙ sym (eq-eqb (h j) x (ap h e ∙ back))
    go (no e) = ne_eqb j (g x) e ∙ sym (ne_eqb (h j) x (λ d. e (sym there ∙ ap g d)))

-- g goes over the numbers below n, and h takes it back
pub along_once : (n : ℕ) (g h : ℕ → ℕ) (P : ℕ → Bool) → ((i : ℕ) → i < n → (g i < n) × (h (g i) ≡ i))
    → ((j : ℕ) → j < n → (h j < n) × (g (h j) ≡ j)) → ListsOnce n P (along n g P)
unfolding along
along_once n g h P back there j = go (dec_lt j n)
  where
    numbers : Each (λ i. i < n) (rising n (λ i. P (g i)))
    numbers =
        each_map (λ i r. r.1) (once_each n (λ i. P (g i)) (rising n (λ i. P (g i))) (rising_once n (λ i. P (g i))))

    go : Dec (j < n) → occurrences j (map g (rising n (λ i. P (g i)))) ≡ cond (ltb j n && P j) 1 0
    go (yes l) =
        occurrences_image g h (each_map (λ i below. (back i below).1) numbers) j (there j l).1
        ∙ rising_once n (λ i. P (g i)) (h j)
        ∙ simp (lt-ltb (h j) n (there j l).0, (there j l).1, lt-ltb j n l)
    go (no l) =
        other_numbers j (each_image g (λ i below e. l (rw e (back i below).0)) numbers)
        ∙ sym (simp (le-ltb j n (omega arith)))
