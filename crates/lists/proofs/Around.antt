-- The laws of `along` and `around`: their first entries, that `around` lists each number once, and what rises in it;
-- and that lists with the same entries which rise alike are one.
use mathlib.Core.Path.{◌≡◌, refl, sym, ap, ap₂, subst₂, ◌∙◌}
use mathlib.Core.Logic.{◌⊎◌, inl, inr}
use mathlib.Core.Bool.{Bool, true, false, cond}
use mathlib.Core.List.{List, [], ◌∷◌, ◌++◌, map, map-append}
use Prim.Native.Nat.{ℕ, zero, suc, ◌+◌, ◌-◌, ◌%◌, ◌≤◌, ◌<◌}
use native.Mathlib.Nat.{zero-add, mod-lt, mod-eq_of_lt, mod-add-mod, add-mod-mod, add-mod_right}
use native.Mathlib.Decide.{ℕ_discrete}
use native.Mathlib.Omega.{arith}
use lib.ListN.{length, take, length-map}
use Rattle.lists.specs.Listed.{rising, along, around}
use Rattle.lists.specs.Each.{Each, none, also, Rises, ends, less, occurrences, ListsOnce}
use Rattle.lists.proofs.Each.{each_append, each_map, each_image, each_both}
use Rattle.lists.proofs.Rising.{rising_next, rising_ext, rising_front}
use Rattle.lists.proofs.Once.{
  occurrences_none,
  occurrences_here,
  occurrences_other,
  occurrences_tail,
  each_occurs,
  once_each,
  rising_once,
  along_once,
}

-- ---- the first entries
map_take : (g : ℕ → ℕ) (k : ℕ) (xs : List ℕ) → take k (map g xs) ≡ map g (take k xs)
map_take g zero xs = refl
map_take g (suc k) [] = refl
map_take g (suc k) (x ∷ xs) = ap (λ (l : List ℕ). g x ∷ l) (map_take g k xs)

module _ (g : ℕ → ℕ) (P : ℕ → Bool) where
  abbrev passes : ℕ → Bool
  passes i = P (g i)

  pub along_next : (i : ℕ) → along i g P ++ cond (P (g i)) (g i ∷ []) [] ≡ along (i + 1) g P
  unfolding along
  along_next i =
      ap (λ (l : List ℕ). along i g P ++ l) (one (P (g i)))
      ∙ sym (map-append g (rising i passes) (cond (P (g i)) (i ∷ []) []))
      ∙ ap (map g) (rising_next i passes)
    where
      one : (b : Bool) → cond b (g i ∷ []) [] ≡ map g (cond b (i ∷ []) [])
      one true = refl
      one false = refl

  pub along_front : (i n : ℕ) → i ≤ n → take (length (along i g P)) (along n g P) ≡ along i g P
  unfolding along
  along_front i n h =
      ap (λ (m : ℕ). take m (along n g P)) (length-map (rising i passes) g)
      ∙ map_take g (length (rising i passes)) (rising n passes)
      ∙ ap (map g) (rising_front i n passes h)

-- ---- from b on, around: entry i is (b + i) % n, and the distance from b takes it back
module _ (n b : ℕ) (h : b ≤ n) where
  abbrev distance : ℕ → ℕ
  distance j = (j + n - b) % n

  around_distance : (i : ℕ) → i < n → distance ((b + i) % n) ≡ i
  around_distance i l =
      let left : (b + i) % n + n - b ≡ (b + i) % n + (n - b) = omega arith in
      let whole : b + i + (n - b) ≡ i + n = omega arith in
      ap (λ (m : ℕ). m % n) left ∙ mod-add-mod (b + i) n (n - b) ∙ ap (λ (m : ℕ). m % n) whole
      ∙ add-mod_right i n ∙ mod-eq_of_lt l

  distance_around : (j : ℕ) → j < n → (b + distance j) % n ≡ j
  distance_around j l =
      let whole : b + (j + n - b) ≡ j + n = omega arith in
      add-mod-mod b (j + n - b) n ∙ ap (λ (m : ℕ). m % n) whole ∙ add-mod_right j n ∙ mod-eq_of_lt l

  pub around_once : (P : ℕ → Bool) → ListsOnce n P (around n b P)
  around_once P =
      along_once n (λ i. (b + i) % n) distance P
      (λ i l. (mod-lt (b + i) (omega arith), around_distance i l))
      (λ j l. (mod-lt (j + n - b) (omega arith), distance_around j l))

pub around_zero : (n : ℕ) (P : ℕ → Bool) → around n 0 P ≡ rising n P
unfolding along
around_zero n P =
    ap (map (λ i. (0 + i) % n)) (rising_ext n (λ i. P ((0 + i) % n)) P (λ i l. ap P (here i l)))
    ∙ same (each_map (λ i r. here i r.1) (once_each n P (rising n P) (rising_once n P)))
  where
    here : (i : ℕ) → i < n → (0 + i) % n ≡ i
    here i l = ap (λ (m : ℕ). m % n) (zero-add i) ∙ mod-eq_of_lt l

    same : {xs : List ℕ} → Each (λ i. (0 + i) % n ≡ i) xs → map (λ i. (0 + i) % n) xs ≡ xs
    same none = refl
    same (also e es) = ap₂ (λ (x : ℕ) (l : List ℕ). x ∷ l) e (same es)

-- ---- what rises
rises_last : {d : ℕ → ℕ} {x : ℕ} {xs : List ℕ} (b : Bool) → Rises d xs → Each (λ y. d y < d x) xs
    → Rises d (xs ++ cond b (x ∷ []) [])
rises_last true ends none = less none ends
rises_last false ends none = ends
rises_last {d} {x} b (less above rest) (also {x = y} l ls) =
    less (each_append above (last b)) (rises_last b rest ls)
  where
    last : (b : Bool) → Each (λ z. d y < d z) (cond b (x ∷ []) [])
    last true = also l none
    last false = none

pub rising_rises : (n : ℕ) (P : ℕ → Bool) → Rises (λ j. j) (rising n P)
unfolding rising
rising_rises zero P = ends
rising_rises (suc n) P =
    rises_last (P n) (rising_rises n P) (each_map (λ j r. r.1) (once_each n P (rising n P) (rising_once n P)))

rises_image : (g d : ℕ → ℕ) {xs : List ℕ} → Each (λ i. d (g i) ≡ i) xs → Rises (λ j. j) xs → Rises d (map g xs)
rises_image g d none ends = ends
rises_image g d (also e es) (less above rest) =
    less (each_image g (λ i r. subst₂ (λ (u v : ℕ). u < v) (sym e) (sym r.0) r.1) (each_both es above))
    (rises_image g d es rest)

pub around_rises : (n b : ℕ) (P : ℕ → Bool) → b ≤ n → Rises (λ j. (j + n - b) % n) (around n b P)
unfolding along
around_rises n b P h =
    rises_image (λ i. (b + i) % n) (distance n b h)
    (each_map (λ i r. around_distance n b h i r.1) (once_each n passing (rising n passing) (rising_once n passing)))
    (rising_rises n passing)
  where
    passing : ℕ → Bool
    passing i = P ((b + i) % n)

-- ---- lists with the same entries that rise alike
-- an entry is the first one, or comes after it
first_or_later : {d : ℕ → ℕ} {x y : ℕ} {ys : List ℕ} → Each (λ z. d y < d z) ys → 0 < occurrences x (y ∷ ys)
    → (x ≡ y) ⊎ (d y < d x)
first_or_later {d} {x} {y} {ys} above stands = go (ℕ_discrete x y)
  where
    go : Dec (x ≡ y) → (x ≡ y) ⊎ (d y < d x)
    go (yes e) = inl e
    go (no e) = inr (each_occurs above (omega (arith, stands, occurrences_other x y ys e)))

same_first : (d : ℕ → ℕ) {x y : ℕ} → (x ≡ y) ⊎ (d y < d x) → (y ≡ x) ⊎ (d x < d y) → x ≡ y
same_first d (inl e) later = e
same_first d (inr l) (inl e) = sym e
same_first d (inr l) (inr m) = absurd (omega arith)

rises_one : {d : ℕ → ℕ} {xs ys : List ℕ} → Rises d xs → Rises d ys
    → ((j : ℕ) → occurrences j xs ≡ occurrences j ys) → xs ≡ ys
rises_one ends ends same = refl
rises_one ends (less {x = y} {xs = ys} above rest) same =
    absurd (omega (arith, occurrences_none y, same y, occurrences_here y ys))
rises_one (less {x = x} {xs = xs} above rest) ends same =
    absurd (omega (arith, occurrences_none x, same x, occurrences_here x xs))
rises_one {d} (less {x = x} {xs = xs} above rest) (less {x = y} {xs = ys} high others) same =
    let first : x ≡ y =
    same_first d (first_or_later high (omega (arith, same x, occurrences_here x xs)))
    (first_or_later above (omega (arith, same y, occurrences_here y ys))) in
    ap₂ (λ (u : ℕ) (l : List ℕ). u ∷ l) first (rises_one rest others (tails first))
  where
    tails : x ≡ y → (j : ℕ) → occurrences j xs ≡ occurrences j ys
    tails first j =
        let both : occurrences j (x ∷ xs) ≡ occurrences j (x ∷ ys) =
        same j ∙ ap (λ (u : ℕ). occurrences j (u ∷ ys)) (sym first) in
        occurrences_tail j x xs ys both

pub once_one : (n : ℕ) (P : ℕ → Bool) {d : ℕ → ℕ} {xs ys : List ℕ} → ListsOnce n P xs → ListsOnce n P ys
    → Rises d xs → Rises d ys → xs ≡ ys
once_one n P once too u v = rises_one u v (λ j. once j ∙ sym (too j))
