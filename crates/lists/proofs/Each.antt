-- The laws of `Each` and `Distinct`: entry by entry, two lists in a row, the front of a list, a weaker property, the
-- image by a function.
use mathlib.Core.Path.{◌≡◌}
use mathlib.Core.Logic.{◌≢◌}
use mathlib.Core.List.{List, [], ◌∷◌, ◌++◌, map}
use Prim.Native.Nat.{ℕ, zero, suc, ◌<◌, suc-le-suc}
use native.Mathlib.Nat.{not-suc-le-zero, zero-lt-suc}
use native.Mathlib.Omega.{arith}
use lib.ListN.{length, get_or, take}
use Rattle.lists.specs.Each.{Each, none, also, Distinct, empty, new}

module _ {X : Type 0} {R : X → Type 0} where
  pub each_at : (d : X) {l : List X} → Each R l → (i : ℕ) → i < length l → R (get_or l i d)
  each_at d none i h = absurd (not-suc-le-zero h)
  each_at d (also r rs) zero h = r
  each_at d (also r rs) (suc i) h = each_at d rs i (omega arith)

  pub each_from : (d : X) (l : List X) → ((i : ℕ) → i < length l → R (get_or l i d)) → Each R l
  each_from d [] h = none
  each_from d (x ∷ xs) h =
      also (h 0 (zero-lt-suc (length xs))) (each_from d xs (λ i below. h (suc i) (suc-le-suc below)))

  pub each_append : {xs ys : List X} → Each R xs → Each R ys → Each R (xs ++ ys)
  each_append none ss = ss
  each_append (also r rs) ss = also r (each_append rs ss)

  pub each_left : (xs ys : List X) → Each R (xs ++ ys) → Each R xs
  each_left [] ys rs = none
  each_left (x ∷ xs) ys (also r rs) = also r (each_left xs ys rs)

  pub each_right : (xs ys : List X) → Each R (xs ++ ys) → Each R ys
  each_right [] ys rs = rs
  each_right (x ∷ xs) ys (also r rs) = each_right xs ys rs

  pub each_take : (k : ℕ) {xs : List X} → Each R xs → Each R (take k xs)
  each_take zero rs = none
  each_take (suc k) none = none
  each_take (suc k) (also r rs) = also r (each_take k rs)

  pub each_map : {S : X → Type 0} → ((j : X) → R j → S j) → {xs : List X} → Each R xs → Each S xs
  each_map f none = none
  each_map f (also r rs) = also (f _ r) (each_map f rs)

  pub each_image : {Y : Type 0} {S : Y → Type 0} (f : X → Y) → ((j : X) → R j → S (f j)) → {xs : List X}
      → Each R xs → Each S (map f xs)
  each_image f h none = none
  each_image f h (also r rs) = also (h _ r) (each_image f h rs)

  pub each_both : {S : X → Type 0} {xs : List X} → Each R xs → Each S xs → Each (λ j. R j × S j) xs
  each_both none none = none
  each_both (also r rs) (also s ss) = also (r, s) (each_both rs ss)

module _ {X : Type 0} where
  pub distinct_at : (d : X) {l : List X} → Distinct l → (i j : ℕ) → i < j → j < length l → get_or l i d ≢ get_or l j d
  distinct_at d empty i j h below = absurd (not-suc-le-zero below)
  distinct_at d (new e es) i zero h below = absurd (not-suc-le-zero h)
  distinct_at d (new e es) zero (suc j) h below = each_at d e j (omega arith)
  distinct_at d (new e es) (suc i) (suc j) h below = distinct_at d es i j (omega arith) (omega arith)

  -- two lists, where what holds of each entry tells those of the first from those of the second
  pub distinct_append : {R S : X → Type 0} → ((x y : X) → R x → S y → x ≢ y) → {xs ys : List X} → Each R xs → Each S ys
      → Distinct xs → Distinct ys → Distinct (xs ++ ys)
  distinct_append apart none ss empty es = es
  distinct_append apart (also r rs) ss (new d ds) es =
      new (each_append d (each_map (λ y s. apart _ y r s) ss)) (distinct_append apart rs ss ds es)

  pub distinct_take : (k : ℕ) {xs : List X} → Distinct xs → Distinct (take k xs)
  distinct_take zero ds = empty
  distinct_take (suc k) empty = empty
  distinct_take (suc k) (new d ds) = new (each_take k d) (distinct_take k ds)

  pub distinct_image : {Y : Type 0} (f : X → Y) → ((x y : X) → f x ≡ f y → x ≡ y) → {xs : List X} → Distinct xs
      → Distinct (map f xs)
  distinct_image f injective empty = empty
  distinct_image f injective (new d ds) =
      new (each_image f (λ y ne e. ne (injective _ y e)) d) (distinct_image f injective ds)
