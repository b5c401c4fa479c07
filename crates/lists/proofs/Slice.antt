-- The laws of `slice`: of two lists in a row, its length, its entries, two of them in a row, a part of it, and when it
-- is listed by a function of the index.
use mathlib.Core.Path.{◌≡◌, sym, ap, ap₂, ◌∙◌}
use mathlib.Core.List.{List, ◌++◌}
use Prim.Native.Nat.{ℕ, ◌+◌, ◌-◌, ◌≤◌, ◌<◌}
use native.Mathlib.Omega.{arith}
use lib.ListN.{length, get_or, take, drop, length-drop}
use lib.Seq.{
  drop-append-le,
  drop-append-add,
  take-append-le,
  length-take-le,
  get_or-take,
  get_or-drop,
  take-take,
  take-add,
  take_at,
  drop-drop,
  drop_at,
  ext_get_or,
}
use Rattle.lists.specs.Listed.{listed}
use Rattle.lists.specs.Put.{slice}
use Rattle.lists.proofs.Listed.{listed_length, listed_at}

-- within the second list
pub slice_right : (xs ys : List ℕ) (at m : ℕ) → slice (xs ++ ys) (length xs + at) m ≡ slice ys at m
unfolding slice
slice_right xs ys at m = ap (take m) (drop-append-add xs ys at)

pub slice_length : (x : List ℕ) (at m : ℕ) → at + m ≤ length x → length (slice x at m) ≡ m
unfolding slice
slice_length x at m h = length-take-le m (drop at x) (rw length-drop (omega arith))

-- within the first list
pub slice_left : (xs ys : List ℕ) (at m : ℕ) → at + m ≤ length xs → slice (xs ++ ys) at m ≡ slice xs at m
unfolding slice
slice_left xs ys at m h =
    ap (take m) (drop-append-le at xs ys (omega arith))
    ∙ take-append-le m (drop at xs) ys (rw length-drop (omega arith))

pub slice_at : (x : List ℕ) (at m i : ℕ) → i < m → get_or (slice x at m) i 0 ≡ get_or x (at + i) 0
unfolding slice
slice_at x at m i h = get_or-take m (drop at x) i 0 h ∙ get_or-drop at x i 0

-- two slices in a row
slice_add : (x : List ℕ) (at m n : ℕ) → slice x at (m + n) ≡ slice x at m ++ slice x (at + m) n
unfolding slice
slice_add x at m n =
    take-add m n (drop at x) ∙ ap (λ (l : List ℕ). take m (drop at x) ++ take n l) (drop-drop m at x)

module _ (x : List ℕ) (at m n : ℕ) (xs ys : List ℕ) where
  pub slice_joined : slice x at m ≡ xs → slice x (at + m) n ≡ ys → slice x at (m + n) ≡ xs ++ ys
  slice_joined d e = slice_add x at m n ∙ ap₂ ◌++◌ d e

  pub slice_split : length xs ≡ m → slice x at (m + n) ≡ xs ++ ys → (slice x at m ≡ xs) × (slice x (at + m) n ≡ ys)
  unfolding slice
  slice_split size e = (front, back)
    where
      front : slice x at m ≡ xs
      front = sym (take-take m (m + n) (drop at x) (omega arith)) ∙ ap (take m) e ∙ take_at xs ys m size

      back : slice x (at + m) n ≡ ys
      back =
          sym (drop_at (slice x at m) (slice x (at + m) n) m (ap length front ∙ size))
          ∙ ap (drop m) (sym (slice_add x at m n) ∙ e)
          ∙ drop_at xs ys m size

-- a part of two slices that are alike
pub slice_part : (x y : List ℕ) (at w o m : ℕ) → at + w ≤ length y → o + m ≤ w → slice x at w ≡ slice y at w
    → slice x (at + o) m ≡ slice y (at + o) m
unfolding slice
slice_part x y at w o m fits l e =
    let rest : ℕ = w - o in
    let whole : w ≡ o + rest = omega arith in
    let parts : slice x at (o + rest) ≡ slice y at o ++ slice y (at + o) rest =
    ap (slice x at) (sym whole) ∙ e ∙ ap (slice y at) whole ∙ slice_add y at o rest in
    let past : slice x (at + o) rest ≡ slice y (at + o) rest =
    (slice_split x at o rest (slice y at o) (slice y (at + o) rest) (slice_length y at o (omega arith)) parts).1 in
    sym (take-take m rest (drop (at + o) x) (omega arith))
    ∙ ap (take m) past
    ∙ take-take m rest (drop (at + o) y) (omega arith)

pub slice_listed : (x : List ℕ) (at m : ℕ) → at + m ≤ length x → (f : ℕ → ℕ)
    → ((o : ℕ) → o < m → f o ≡ get_or x (at + o) 0) → listed m f ≡ slice x at m
slice_listed x at m h f same =
    ext_get_or 0 (listed m f) (slice x at m) (listed_length m f ∙ sym (slice_length x at m h))
    (λ o l. let b : o < m = rw listed_length at l in listed_at m f o 0 b ∙ same o b ∙ sym (slice_at x at m o b))
