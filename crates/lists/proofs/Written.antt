-- A loop that writes a list place by place from the front.
use mathlib.Core.Path.{◌≡◌, refl, sym, ap, ◌∙◌}
use mathlib.Core.List.{List, [], ◌∷◌, ◌++◌, append-nil}
use Prim.Native.Nat.{ℕ, suc, ◌+◌, ◌≤◌, ◌<◌, zero-le}
use native.Mathlib.Nat.{add-zero}
use native.Mathlib.Numerals.{add-one}
use native.Mathlib.Omega.{arith}
use lib.ListN.{length, get_or, set, drop, length-set}
use lib.Seq.{drop-cons, drop-length, append_snoc, get_or_at, set_at}
use Rattle.lists.specs.Listed.{listed}
use Rattle.lists.proofs.Listed.{listed_length, listed_add}

-- y is x with its first b places written by f
pub record Written (f : ℕ → ℕ) (b : ℕ) (x y : List ℕ) : Type 0 where
  pub passed : b ≤ length x
  pub size : length y ≡ length x
  pub holds : y ≡ listed b f ++ drop b x

pub written_none : (f : ℕ → ℕ) (x : List ℕ) → Written f 0 x x
unfolding listed
written_none f x = record { passed = zero-le; size = refl; holds = refl }

pub written_all : (f : ℕ → ℕ) (b : ℕ) (x y : List ℕ) → Written f b x y → length x ≤ b → y ≡ listed (length x) f
written_all f b x y w h =
    let e : b ≡ length x = omega arith in
    w.holds ∙ rw e (ap (λ (l : List ℕ). listed (length x) f ++ l) (drop-length x) ∙ append-nil (listed (length x) f))

listed_more : (f : ℕ → ℕ) (b : ℕ) → listed b f ++ (f b ∷ []) ≡ listed (b + 1) f
unfolding listed
listed_more f b =
    ap (λ (e : ℕ). listed b f ++ (f e ∷ [])) (sym (add-zero b)) ∙ sym (listed_add b 1 f)

module _ (f : ℕ → ℕ) (b : ℕ) (x y : List ℕ) (w : Written f b x y) (h : b < length x) where
  -- the place to be written next is as it was
  pub written_next : get_or y b 0 ≡ get_or x b 0
  written_next =
      ap (λ (l : List ℕ). get_or l b 0) w.holds
      ∙ rw (drop-cons x b 0) (get_or_at (listed b f) (get_or x b 0) (drop (suc b) x) 0 b (listed_length b f))

  pub written_more : (v : ℕ) → v ≡ f b → Written f (b + 1) x (set y b v)
  written_more v e = record { passed = omega arith; size = length-set y b v ∙ w.size; holds = after }
    where
      after : set y b v ≡ listed (b + 1) f ++ drop (b + 1) x
      after =
          ap (λ (l : List ℕ). set l b v) w.holds
          ∙ rw (drop-cons x b 0) (set_at (listed b f) (get_or x b 0) (drop (suc b) x) v b (listed_length b f))
          ∙ sym (append_snoc (listed b f) v (drop (suc b) x))
          ∙ rw (e, listed_more f b, add-one b) refl
