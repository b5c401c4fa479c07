-- The laws of a combination of strips: its length, its bytes, and Horner's rule over the bits of the weights.
use mathlib.Core.Path.{◌≡◌, refl, sym, ap, ap₂, ◌∙◌}
use mathlib.Core.List.{List, [], ◌∷◌}
use Prim.Native.Nat.{ℕ, suc, ◌+◌, ◌-◌, ◌/◌, ◌%◌, ◌^◌, ◌<◌}
use native.Mathlib.Nat.{div-one, div-eq_of_lt}
use native.Mathlib.Numerals.{add-one}
use native.Mathlib.Omega.{arith}
use lib.ListN.{length, get_or}
use lib.Pow.{shr-shr, shr_le}
use Rattle.lists.specs.Listed.{listed}
use Rattle.lists.proofs.Listed.{listed_length, listed_at, listed_ext}
use Rattle.gf256.specs.Field.{◌⊕◌, ◌⊗◌, double}
use Rattle.gf256.proofs.Ring.{ring, zero-mul, add_self, double_add, mul_bit}
use Rattle.strips.specs.Strips.{sum_of, combination_of}
use Rattle.strips.specs.Planes.{shifted_by, bits_at, plane_of}

pub combination_length : (ws src : List ℕ) (first stride len : ℕ) → length (combination_of ws src first stride len) ≡ len
unfolding combination_of
combination_length ws src first stride len = listed_length len _

pub combination_at : (ws src : List ℕ) (first stride len b : ℕ) → b < len
    → get_or (combination_of ws src first stride len) b 0 ≡ sum_of ws src (first + b) stride
unfolding combination_of
combination_at ws src first stride len b h = listed_at len _ b 0 h

-- the weights are bytes
abbrev ByteWeights : List ℕ → Type 0
ByteWeights ws = (q : ℕ) → get_or ws q 0 < 256

shifted_none : (ws : List ℕ) → shifted_by 0 ws ≡ ws
unfolding shifted_by
shifted_none [] = refl
shifted_none (w ∷ ws) = ap₂ (λ (v : ℕ) (vs : List ℕ). v ∷ vs) (div-one w) (shifted_none ws)

sum_shifted_out : (ws src : List ℕ) (at stride : ℕ) → ByteWeights ws → sum_of (shifted_by 8 ws) src at stride ≡ 0
unfolding sum_of shifted_by
sum_shifted_out [] src at stride h = refl
sum_shifted_out (w ∷ ws) src at stride h =
    ap₂ ◌⊕◌ (ap (λ (v : ℕ). v ⊗ get_or src at 0) (div-eq_of_lt (h 0)) ∙ zero-mul (get_or src at 0))
    (sum_shifted_out ws src (at + stride) stride (λ q. h (suc q)))
    ∙ add_self 0

double_sort : (a b c d : ℕ) → (double a ⊕ b) ⊕ (double c ⊕ d) ≡ double (a ⊕ c) ⊕ (b ⊕ d)
double_sort a b c d = sort (double a) b (double c) d ∙ ap (λ (z : ℕ). z ⊕ (b ⊕ d)) (sym (double_add a c))
  where
    sort : (a b c d : ℕ) → (a ⊕ b) ⊕ (c ⊕ d) ≡ (a ⊕ c) ⊕ (b ⊕ d)
    sort a b c d = simp ring

double_zero : double 0 ≡ 0
unfolding double
double_zero = add_self 0

-- one weight's bit i and the bits above it
weight_bit : (w i s : ℕ) → w < 256 → (w / 2 ^ i) ⊗ s ≡ double ((w / 2 ^ suc i) ⊗ s) ⊕ ((w / 2 ^ i % 2) ⊗ s)
weight_bit w i s h =
    mul_bit (w / 2 ^ i) s (omega (arith, shr_le w i))
    ∙ ap (λ (v : ℕ). double (v ⊗ s) ⊕ ((w / 2 ^ i % 2) ⊗ s)) (shr-shr w i 1 ∙ ap (λ (k : ℕ). w / 2 ^ k) (add-one i))

module _ (i : ℕ) (src : List ℕ) (stride : ℕ) where
  sum_bit : (ws : List ℕ) (at : ℕ) → ByteWeights ws
      → sum_of (shifted_by i ws) src at stride
      ≡ double (sum_of (shifted_by (suc i) ws) src at stride) ⊕ sum_of (bits_at i ws) src at stride
  unfolding sum_of shifted_by bits_at
  sum_bit [] at h = sym (ap (λ (z : ℕ). z ⊕ 0) double_zero ∙ add_self 0)
  sum_bit (w ∷ ws) at h =
      ap₂ ◌⊕◌ (weight_bit w i (get_or src at 0) (h 0)) (sum_bit ws (at + stride) (λ q. h (suc q)))
      ∙ double_sort _ _ _ _

-- a step of the rule
pub horner : (i : ℕ) (ws src : List ℕ) (first stride len : ℕ) (x y : List ℕ) → ByteWeights ws → 0 < i
    → x ≡ combination_of (shifted_by i ws) src first stride len → y ≡ plane_of (i - 1) ws src first stride x
    → y ≡ combination_of (shifted_by (i - 1) ws) src first stride len
unfolding plane_of combination_of
horner i ws src first stride len x y h k e f =
    f ∙ ap (λ (z : List ℕ). plane_of (i - 1) ws src first stride z) above ∙ step
  where
    above : x ≡ combination_of (shifted_by (suc (i - 1)) ws) src first stride len
    above = e ∙ ap (λ (m : ℕ). combination_of (shifted_by m ws) src first stride len) (omega arith)

    step : plane_of (i - 1) ws src first stride (combination_of (shifted_by (suc (i - 1)) ws) src first stride len)
        ≡ combination_of (shifted_by (i - 1) ws) src first stride len
    step =
        rw (combination_length (shifted_by (suc (i - 1)) ws) src first stride len)
        (listed_ext len _ _ (λ b l.
        ap (λ (z : ℕ). double z ⊕ sum_of (bits_at (i - 1) ws) src (first + b) stride)
        (combination_at (shifted_by (suc (i - 1)) ws) src first stride len b l)
        ∙ sym (sum_bit (i - 1) src stride ws (first + b) h)))

-- where the rule begins and ends
pub horner_none : (ws src : List ℕ) (first stride len : ℕ) → ByteWeights ws
    → listed len (λ b. 0) ≡ combination_of (shifted_by 8 ws) src first stride len
unfolding combination_of
horner_none ws src first stride len h =
    listed_ext len _ _ (λ b l. sym (sum_shifted_out ws src (first + b) stride h))

pub horner_all : (ws src : List ℕ) (first stride len : ℕ)
    → combination_of (shifted_by 0 ws) src first stride len ≡ combination_of ws src first stride len
horner_all ws src first stride len = ap (λ (vs : List ℕ). combination_of vs src first stride len) (shifted_none ws)
