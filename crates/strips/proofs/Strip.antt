-- The laws of a strip cut out of a list: its length, the strip that is the whole list, and the strip that is lent.
use mathlib.Core.Path.{◌≡◌, refl, sym, ap, ◌∙◌}
use mathlib.Core.List.{List, ◌∷◌}
use Prim.Native.Nat.{ℕ, zero, suc, ◌+◌, ◌-◌, ◌≤◌, ◌<◌}
use native.Mathlib.Nat.{zero-add}
use native.Mathlib.Omega.{arith}
use lib.ListN.{length, get_or, take, drop, replicate, length-drop}
use lib.Seq.{ext_get_or, get_or-take, get_or-drop, length-take-le}
use Rattle.lists.specs.Listed.{listed}
use Rattle.lists.proofs.Listed.{listed_length, listed_at, listed_ext, listed_get_or}
use Rattle.strips.specs.Strips.{strip_at}

pub strip_length : (x : List ℕ) (at s : ℕ) → length (strip_at x at s) ≡ s
unfolding strip_at
strip_length x at s = listed_length s _

pub strip_all : (x : List ℕ) (s : ℕ) → s ≡ length x → strip_at x 0 s ≡ x
unfolding strip_at
strip_all x s e =
    rw e (listed_ext (length x) (λ b. get_or x (0 + b) 0) (λ b. get_or x b 0)
    (λ b h. ap (λ (i : ℕ). get_or x i 0) (zero-add b))
    ∙ listed_get_or 0 x)

-- a strip as a program lends it
pub strip_lent : (x : List ℕ) (at s : ℕ) → at + s ≤ length x → take s (drop at x) ≡ strip_at x at s
unfolding strip_at
strip_lent x at s h =
    ext_get_or 0 (take s (drop at x)) (listed s (λ b. get_or x (at + b) 0)) (size ∙ sym (listed_length s _))
    (λ b l. entry b (omega (arith, size)))
  where
    size : length (take s (drop at x)) ≡ s
    size = length-take-le s (drop at x) (rw length-drop (omega arith))

    entry : (b : ℕ) → b < s → get_or (take s (drop at x)) b 0 ≡ get_or (listed s (λ b. get_or x (at + b) 0)) b 0
    entry b l = get_or-take s (drop at x) b 0 l ∙ get_or-drop at x b 0 ∙ sym (listed_at s _ b 0 l)

-- the same, as a slice from `at` to its end
pub strip_part : (x : List ℕ) (at s : ℕ) → at + s ≤ length x → take (at + s - at) (drop at x) ≡ strip_at x at s
strip_part x at s h =
    let n : at + s - at ≡ s = omega arith in ap (λ (m : ℕ). take m (drop at x)) n ∙ strip_lent x at s h

-- a strip of one byte, many times
pub replicated : (n v : ℕ) → replicate n v ≡ listed n (λ b. v)
unfolding listed
replicated zero v = refl
replicated (suc n) v = ap (λ (l : List ℕ). v ∷ l) (replicated n v)
