-- The test of a node list, as a loop makes it.
use mathlib.Core.Path.{◌≡◌, refl, ap}
use mathlib.Core.Logic.{◌≢◌}
use mathlib.Core.Bool.{Bool, true, false, ◌&&◌}
use mathlib.Core.List.{List, [], ◌∷◌}
use Prim.Native.Nat.{ℕ, zero, suc, ◌+◌, ◌-◌, ◌≤◌, ◌<◌}
use native.Mathlib.Numerals.{add-one}
use native.Mathlib.Omega.{arith}
use lib.Dec.{leb, ltb}
use lib.ListN.{length, get_or, drop}
use lib.Seq.{drop-cons, drop-length}
use borrow.Author.Tests.{le-leb, lt-leb, lt-ltb, le-ltb}
use Rattle.document.specs.Reading.{list_accepted}

-- a list of another length
pub list_length : (n k b : ℕ) (xs : List ℕ) → length xs ≢ k → false ≡ list_accepted n b k xs
unfolding list_accepted
list_length n zero b [] d = absurd (d refl)
list_length n zero b (x ∷ xs) d = refl
list_length n (suc k) b [] d = refl
list_length n (suc k) b (x ∷ xs) d =
    go (leb b x) (ltb x n) (list_accepted n (suc x) k xs) (list_length n k (suc x) xs (λ e. d (ap suc e)))
  where
    go : (u v w : Bool) → false ≡ w → false ≡ (u && (v && w))
    go true true w e = e
    go true false w e = refl
    go false v w e = refl

module _ (n k b i : ℕ) (xs : List ℕ) (l : i < length xs) (e : length xs ≡ k) where
  -- what is left of the list from entry i on
  abbrev rest : Bool
  rest = list_accepted n b (k - i) (drop i xs)

  by_entry : (u v : Bool) → leb b (get_or xs i 0) ≡ u → ltb (get_or xs i 0) n ≡ v
      → rest ≡ (u && (v && list_accepted n (get_or xs i 0 + 1) (k - (i + 1)) (drop (i + 1) xs)))
  unfolding list_accepted
  by_entry u v p q =
      let s : k - i ≡ suc (k - suc i) = omega arith in
      rw (s, drop-cons xs i 0 l, p, q, add-one i, add-one (get_or xs i 0)) refl

  pub too_low : get_or xs i 0 < b → rest ≡ false
  too_low h = by_entry false (ltb (get_or xs i 0) n) (lt-leb b (get_or xs i 0) h) refl

  module _ (h : b ≤ get_or xs i 0) where
    pub too_high : n ≤ get_or xs i 0 → rest ≡ false
    too_high m = by_entry true false (le-leb b (get_or xs i 0) h) (le-ltb (get_or xs i 0) n m)

    pub next_entry : get_or xs i 0 < n → rest ≡ list_accepted n (get_or xs i 0 + 1) (k - (i + 1)) (drop (i + 1) xs)
    next_entry m = by_entry true true (le-leb b (get_or xs i 0) h) (lt-ltb (get_or xs i 0) n m)

-- after the last entry
pub all_entries : (n k b i : ℕ) (xs : List ℕ) → i ≡ length xs → i ≡ k → true ≡ list_accepted n b (k - i) (drop i xs)
unfolding list_accepted
all_entries n k b i xs e f =
    let s : k - i ≡ 0 = omega arith in rw (s, e, drop-length) refl
