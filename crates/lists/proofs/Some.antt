-- What holds of some entry of a list: at an entry, in two lists in a row, in the image by a function.
--
-- Some R xs : R holds of some entry of xs
use mathlib.Core.Logic.{◌⊎◌, inl, inr}
use mathlib.Core.List.{List, [], ◌∷◌, ◌++◌, map}
use Prim.Native.Nat.{ℕ, zero, suc, ◌<◌, suc-le-suc}
use native.Mathlib.Nat.{not-suc-le-zero, le_of_suc-le-suc, zero-lt-suc}
use lib.ListN.{length, get_or}
use Rattle.lists.specs.Each.{Each, none, also}

pub data Some {X : Type 0} (R : X → Type 0) : List X → Type 0 where
  here : {x : X} {xs : List X} → R x → Some R (x ∷ xs)
  later : {x : X} {xs : List X} → Some R xs → Some R (x ∷ xs)

module _ {X : Type 0} {R : X → Type 0} where
  pub some_from : (d : X) (l : List X) (i : ℕ) → i < length l → R (get_or l i d) → Some R l
  some_from d [] i h r = absurd (not-suc-le-zero h)
  some_from d (x ∷ xs) zero h r = here r
  some_from d (x ∷ xs) (suc i) h r = later (some_from d xs i (le_of_suc-le-suc h) r)

  pub some_at : (d : X) {l : List X} → Some R l → (i : ℕ) × (i < length l) × R (get_or l i d)
  some_at d (here {xs = xs} r) = (0, zero-lt-suc (length xs), r)
  some_at d (later s) = (suc (some_at d s).0, suc-le-suc (some_at d s).1, (some_at d s).2)

  pub some_left : {xs : List X} (ys : List X) → Some R xs → Some R (xs ++ ys)
  some_left ys (here r) = here r
  some_left ys (later s) = later (some_left ys s)

  pub some_right : (xs : List X) {ys : List X} → Some R ys → Some R (xs ++ ys)
  some_right [] s = s
  some_right (x ∷ xs) s = later (some_right xs s)

  pub some_split : (xs ys : List X) → Some R (xs ++ ys) → Some R xs ⊎ Some R ys
  some_split [] ys s = inr s
  some_split (x ∷ xs) ys (here r) = inl (here r)
  some_split (x ∷ xs) ys (later s) = next (some_split xs ys s)
    where
      next : Some R xs ⊎ Some R ys → Some R (x ∷ xs) ⊎ Some R ys
      next (inl l) = inl (later l)
      next (inr r) = inr r

  pub some_image : {Y : Type 0} {S : Y → Type 0} (f : X → Y) → ((j : X) → R j → S (f j)) → {xs : List X}
      → Some R xs → Some S (map f xs)
  some_image f h (here r) = here (h _ r)
  some_image f h (later s) = later (some_image f h s)

  -- what holds of some entry holds beside what holds of each
  pub some_each : {S : X → Type 0} {xs : List X} → Each S xs → Some R xs → (x : X) × S x × R x
  some_each {S = S} none t = elim t [ ]
  some_each (also s ss) (here r) = (_, s, r)
  some_each (also s ss) (later t) = some_each ss t
