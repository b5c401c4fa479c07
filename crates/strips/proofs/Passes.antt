-- The passes over a plane: the parts of src that they read, four at a time, and what a pass leaves.
use mathlib.Core.Path.{◌≡◌, refl, sym, ap, ap₂, ◌∙◌}
use mathlib.Core.List.{List, [], ◌∷◌, ◌++◌}
use Prim.Native.Nat.{ℕ, zero, suc, ◌+◌, ◌≤◌, ◌<◌}
use native.Mathlib.Decide.{dec_lt}
use native.Mathlib.Omega.{arith}
use lib.ListN.{length, get_or, take, drop, replicate, length-drop, length-replicate, get_or-replicate}
use lib.ListN.{drop_of_length-le, get_or-eq_default}
use lib.Seq.{ext_get_or, get_or-take, get_or-drop, take-add, take-nil}
use lib.Seq.{drop-cons, length-take-le}
use Rattle.std.proofs.lemmas.List.{take-replicate}
use Rattle.lists.proofs.Listed.{listed_length, listed_at, listed_ext}
use Rattle.gf256.specs.Field.{◌⊕◌}
use Rattle.gf256.proofs.Ring as R
use Rattle.strips.specs.Planes.{added_at, added_with, part_of, added_four}

-- ---- the parts of src
-- within a list the default does not count
default : (xs : List ℕ) (j d e : ℕ) → j < length xs → get_or xs j d ≡ get_or xs j e
default [] j d e h = absurd (omega arith)
default (x ∷ xs) zero d e h = refl
default (x ∷ xs) (suc j) d e h = default xs j d e (omega arith)

abbrev blank : ℕ → List ℕ
blank m = replicate m 0

module _ (os src : List ℕ) (j n : ℕ) where
  pub part_length : length (part_of os src j n) ≡ n
  unfolding part_of
  part_length = listed_length n _

  part_at : (b : ℕ) → b < n → get_or (part_of os src j n) b 0 ≡ get_or src (get_or os j (length src) + b) 0
  unfolding part_of
  part_at b h = listed_at n _ b 0 h

  past_end : (b : ℕ) → length os ≤ j → get_or src (get_or os j (length src) + b) 0 ≡ 0
  past_end b h =
      ap (λ (o : ℕ). get_or src (o + b) 0) (get_or-eq_default os (length src) h)
      ∙ get_or-eq_default src 0 {n = length src + b} (omega arith)

  pub part_here : j < length os → get_or os j 0 + n ≤ length src
      → take n (drop (get_or os j 0) src) ≡ part_of os src j n
  part_here h k =
      ext_get_or 0 (take n (drop (get_or os j 0) src)) (part_of os src j n) (size ∙ sym part_length)
      (λ b l. entry b (omega (arith, size)))
    where
      size : length (take n (drop (get_or os j 0) src)) ≡ n
      size = length-take-le n (drop (get_or os j 0) src) (rw length-drop (omega arith))

      entry : (b : ℕ) → b < n → get_or (take n (drop (get_or os j 0) src)) b 0 ≡ get_or (part_of os src j n) b 0
      entry b l =
          get_or-take n (drop (get_or os j 0) src) b 0 l ∙ get_or-drop (get_or os j 0) src b 0
          ∙ ap (λ (o : ℕ). get_or src (o + b) 0) (default os j 0 (length src) h) ∙ sym (part_at b l)

  pub part_past : (m : ℕ) → n ≤ m → length os ≤ j → take n (blank m) ≡ part_of os src j n
  part_past m k h =
      ext_get_or 0 (take n (blank m)) (part_of os src j n) (size ∙ sym part_length) (λ b l. entry b (omega (arith, size)))
    where
      front : take n (blank m) ≡ blank n
      front = take-replicate n m 0 k

      size : length (take n (blank m)) ≡ n
      size = ap length front ∙ length-replicate n 0

      entry : (b : ℕ) → b < n → get_or (take n (blank m)) b 0 ≡ get_or (part_of os src j n) b 0
      entry b l =
          ap (λ (xs : List ℕ). get_or xs b 0) front ∙ get_or-replicate n b 0 0 l ∙ sym (part_at b l ∙ past_end b h)

-- ---- four at a time
added_append : (os ps src : List ℕ) (b : ℕ) → added_at (os ++ ps) src b ≡ added_at os src b ⊕ added_at ps src b
unfolding added_at
added_append [] ps src b = sym (R.zero-add _)
added_append (o ∷ os) ps src b =
    ap (λ (z : ℕ). get_or src (o + b) 0 ⊕ z) (added_append os ps src b) ∙ sym (R.add_assoc _ _ _)

-- the part with number j, or 0 past the last, and the parts behind it
added_next : (os src : List ℕ) (j m b : ℕ)
    → added_at (take (suc m) (drop j os)) src b
    ≡ get_or src (get_or os j (length src) + b) 0 ⊕ added_at (take m (drop (suc j) os)) src b
unfolding added_at
added_next os src j m b = go (dec_lt j (length os))
  where
    go : Dec (j < length os)
        → added_at (take (suc m) (drop j os)) src b
        ≡ get_or src (get_or os j (length src) + b) 0 ⊕ added_at (take m (drop (suc j) os)) src b
    go (yes h) = ap (λ (l : List ℕ). added_at (take (suc m) l) src b) (drop-cons os j (length src) h)
    go (no h) =
        let l : length os ≤ j = omega arith in
        let k : length os ≤ suc j = omega arith in
        rw (drop_of_length-le os l, drop_of_length-le os k, take-nil m)
        (sym (ap (λ (z : ℕ). z ⊕ added_at [] src b) (past_end os src j 0 b l) ∙ R.zero-add (added_at [] src b)))

module _ (os src : List ℕ) (n : ℕ) where
  added_four_lem : (j b : ℕ) → b < n → added_at (take 4 (drop j os)) src b
      ≡ get_or (part_of os src j n) b 0 ⊕ (get_or (part_of os src (j + 1) n) b 0
      ⊕ (get_or (part_of os src (j + 2) n) b 0 ⊕ get_or (part_of os src (j + 3) n) b 0))
  unfolding added_at
  added_four_lem j b h =
      added_next os src j 3 b
      ∙ ap₂ ◌⊕◌ (step j j refl) (added_next os src (suc j) 2 b
      ∙ ap₂ ◌⊕◌ (step (suc j) (j + 1) (omega arith)) (added_next os src (suc (suc j)) 1 b
      ∙ ap₂ ◌⊕◌ (step (suc (suc j)) (j + 2) (omega arith)) (added_next os src (suc (suc (suc j))) 0 b
      ∙ ap₂ ◌⊕◌ (step (suc (suc (suc j))) (j + 3) (omega arith)) refl ∙ R.add-zero _)))
    where
      step : (k l : ℕ) → k ≡ l → get_or src (get_or os k (length src) + b) 0 ≡ get_or (part_of os src l n) b 0
      step k l e = rw e (sym (part_at os src l n b h))

sort_four : (x a b c d : ℕ) → x ⊕ a ⊕ b ⊕ c ⊕ d ≡ x ⊕ (a ⊕ (b ⊕ (c ⊕ d)))
sort_four x a b c d = simp R.add_assoc

-- what a pass leaves
module _ (g : ℕ → ℕ) (os src x : List ℕ) where
  pub added_pass : (j : ℕ)
      → added_four g x (part_of os src j (length x)) (part_of os src (j + 1) (length x)) (part_of os src (j + 2) (length x))
      (part_of os src (j + 3) (length x))
      ≡ added_with g (take 4 (drop j os)) src x
  unfolding added_four added_with
  added_pass j =
      listed_ext (length x) _ _ (λ b h.
      sort_four _ _ _ _ _ ∙ ap (λ (z : ℕ). g (get_or x b 0) ⊕ z) (sym (added_four_lem os src (length x) j b h)))

  both_passes : (ps : List ℕ) → added_with (λ v. v) ps src (added_with g os src x) ≡ added_with g (os ++ ps) src x
  unfolding added_with
  both_passes ps =
      rw (listed_length (length x) (λ b. g (get_or x b 0) ⊕ added_at os src b))
      (listed_ext (length x) _ _ (λ b h.
      ap (λ (z : ℕ). z ⊕ added_at ps src b) (listed_at (length x) (λ b. g (get_or x b 0) ⊕ added_at os src b) b 0 h)
      ∙ R.add_assoc _ _ _ ∙ ap (λ (z : ℕ). g (get_or x b 0) ⊕ z) (sym (added_append os ps src b))))

-- a pass after others
pub added_more : (g : ℕ → ℕ) (os src x : List ℕ) (j : ℕ) (y z : List ℕ) → y ≡ added_with g (take j os) src x
    → z ≡ added_with (λ v. v) (take 4 (drop j os)) src y → z ≡ added_with g (take (j + 4) os) src x
added_more g os src x j y z e f =
    f ∙ ap (added_with (λ v. v) (take 4 (drop j os)) src) e ∙ both_passes g (take j os) src x (take 4 (drop j os))
    ∙ ap (λ (ps : List ℕ). added_with g ps src x) (sym (take-add j 4 os))
