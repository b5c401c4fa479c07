-- The last entry that can be raised, found from the end, and the next set written from there.
use mathlib.Core.Path.{◌≡◌, refl, sym, ap, ◌∙◌}
use mathlib.Core.Bool.{Bool, true, false, ◌&&◌}
use mathlib.Core.List.{List, [], ◌∷◌, ◌++◌}
use Prim.Native.Nat.{ℕ, zero, suc, ◌+◌, ◌-◌, ◌≤◌, ◌<◌}
use native.Mathlib.Nat.{not-suc-le-zero, sub-zero}
use native.Mathlib.Numerals.{add-one}
use native.Mathlib.Omega.{arith}
use lib.Dec.{leb}
use lib.ListN.{length, get_or, set, take, drop, length-drop}
use lib.Seq.{drop-cons, drop-length}
use Rattle.lists.proofs.Listed.{listed_is}
use Rattle.ksets.specs.Sets.{run, full, next_of}
use Rattle.std.specs.Prelude.{Option, Some, None, MatchOption}
use Rattle.ksets.specs.Workers.{Raised, Steps}
use Rattle.ksets.proofs.Ranked.{set_rank}
use Rattle.ksets.proofs.Following.{full_cons, free_first, full_first, not_full, next_here, next_later}

full_end : (n : ℕ) (set : List ℕ) → full n (drop (length set) set) ≡ true
unfolding full
full_end n set = rw (drop-length set)

-- one entry more that cannot be raised
full_before : (n j : ℕ) (set : List ℕ) → j < length set → n ≤ suc (get_or set j 0 + (length set - suc j))
    → full n (drop (suc j) set) ≡ true → full n (drop j set) ≡ true
full_before n j set h l f =
    rw (drop-cons set j 0 h)
    (full_first n (get_or set j 0) (drop (suc j) set) (omega (arith, length-drop (suc j) set)) f)

module _ (n : ℕ) (set : List ℕ) where
  -- entry i has no room to be raised, with those after it
  abbrev Fixed : ℕ → Type 0
  Fixed i = n ≤ get_or set i 0 + length set - i

  full_from : (d j : ℕ) → j + d ≡ length set → ((i : ℕ) → j ≤ i → i < length set → Fixed i) → full n (drop j set) ≡ true
  full_from zero j e h =
      let all : j ≡ length set = omega arith in
      rw all (full_end n set)
  full_from (suc d) j e h =
      let here : Fixed j = h j (omega arith) (omega arith) in
      full_before n j set (omega arith) (omega arith) (full_from d (suc j) (omega arith) (λ i k l. h i (omega arith) l))

  -- what a search from the end finds: none, or one after which all are fixed
  pub raised_found : (r : Option ℕ) → MatchOption r ((i : ℕ) → i < length set → Fixed i)
      (λ at. (at < length set) × (get_or set at 0 + length set - at < n) × ((i : ℕ) → at < i → i < length set → Fixed i))
      → MatchOption r (full n set ≡ true) (Raised n set)
  raised_found None h = full_from (length set) 0 (omega arith) (λ i k l. h i l)
  raised_found (Some at) h = record {
    inside = h.0;
    free = omega arith;
    rest = full_from (length set - suc at) (suc at) (omega arith) (λ i k l. h.2 i (omega arith) l);
  }

-- ---- the next set, written
free_in : (n j : ℕ) (xs : List ℕ) → j < length xs → suc (get_or xs j 0 + (length xs - suc j)) < n → full n xs ≡ false
unfolding full
free_in n j [] h l = absurd (not-suc-le-zero h)
free_in n zero (x ∷ xs) h l = free_first n x xs (omega arith)
free_in n (suc j) (x ∷ xs) h l =
    full_cons n x xs (leb n (suc (x + length xs))) false refl (free_in n j xs (omega arith) (omega arith))
    ∙ neither (leb n (suc (x + length xs)))
  where
    neither : (b : Bool) → b && false ≡ false
    neither true = refl
    neither false = refl

-- a list of these numbers is the run
pub run_is : (v m : ℕ) (xs : List ℕ) → length xs ≡ m → ((k : ℕ) → k < m → get_or xs k 0 ≡ v + k) → xs ≡ run v m
unfolding run
run_is v m xs size h = listed_is m (λ e. v + e) 0 xs size h

raises : (n : ℕ) (xs : List ℕ) (i : ℕ) → i < length xs → suc (get_or xs i 0 + (length xs - suc i)) < n
    → full n (drop (suc i) xs) ≡ true → take i xs ++ run (suc (get_or xs i 0)) (length xs - i) ≡ next_of n xs
raises n [] i h l f = absurd (not-suc-le-zero h)
raises n (x ∷ xs) zero h l f =
    ap (run (suc x)) (sub-zero (suc (length xs))) ∙ sym (next_here n x xs f)
raises n (x ∷ xs) (suc i) h l f =
    ap (λ (m : ℕ). x ∷ (take i xs ++ run (suc (get_or xs i 0)) m)) (omega arith)
    ∙ ap (λ (s : List ℕ). x ∷ s) (raises n xs i (omega arith) (omega arith) f)
    ∙ sym (next_later n x xs (free_in n i xs (omega arith) (omega arith)))

pub raised_next : (n i : ℕ) (set : List ℕ) → Raised n set i
    → take i set ++ run (get_or set i 0 + 1) (length set - i) ≡ next_of n set
raised_next n i set r = rw add-one (raises n set i r.inside r.free r.rest)

-- a set that is not the last one has an entry that can be raised
pub steps_free : (n : ℕ) (set : List ℕ) → Steps n set → full n set ≡ false
steps_free n set s =
    let p = set_rank n (length set) set s.rises in
    ap (full n) (sym p.1) ∙ not_full n 0 n (length set) _ (omega arith) s.more
