-- The laws of the two strips of a pair changed: the length, the bytes of both strips, and all others; and the two
-- strips coupled, as the code does it.
use mathlib.Core.Path.{◌≡◌, ap, ap₂, ◌∙◌}
use mathlib.Core.List.{List}
use Prim.Native.Nat.{ℕ, ◌+◌, ◌≤◌, ◌<◌}
use native.Mathlib.Omega.{arith}
use lib.ListN.{length, get_or}
use Rattle.lists.specs.Listed.{patched}
use Rattle.lists.proofs.Listed.{listed_length, listed_at}
use Rattle.lists.proofs.Patched.{patched_length, patched_in, patched_out, patched_ext}
use Rattle.gf256.specs.Field.{◌⊕◌, ◌⊗◌}
use Rattle.strips.specs.Strips.{strip_at, added_scaled, added_strip}
use Rattle.coupling.specs.Pairs.{changed_strips, coupled_strips}

module _ (up low : ℕ → ℕ → ℕ) (upper lower s : ℕ) (x : List ℕ) where
  -- the upper strip's new bytes, and the lower one's
  abbrev ups : ℕ → ℕ
  ups b = up (get_or x (upper + b) 0) (get_or x (lower + b) 0)

  abbrev lows : ℕ → ℕ
  lows b = low (get_or x (lower + b) 0) (get_or x (upper + b) 0)

  pub changed_length : length (changed_strips up low upper lower s x) ≡ length x
  unfolding changed_strips
  changed_length = patched_length lower s lows (patched upper s ups x) ∙ patched_length upper s ups x

  pub changed_elsewhere : (p : ℕ) → (upper ≤ p → p < upper + s → ⊥) → (lower ≤ p → p < lower + s → ⊥)
      → get_or (changed_strips up low upper lower s x) p 0 ≡ get_or x p 0
  unfolding changed_strips
  changed_elsewhere p h k = patched_out lower s lows (patched upper s ups x) p k ∙ patched_out upper s ups x p h

  module _ (apart : lower + s ≤ upper) (fits : upper + s ≤ length x) where
    pub changed_upper : (b : ℕ) → b < s
        → get_or (changed_strips up low upper lower s x) (upper + b) 0
        ≡ up (get_or x (upper + b) 0) (get_or x (lower + b) 0)
    unfolding changed_strips
    changed_upper b h =
        patched_out lower s lows (patched upper s ups x) (upper + b) (λ l k. omega arith)
        ∙ patched_in upper s ups x b h (omega arith)

    pub changed_lower : (b : ℕ) → b < s
        → get_or (changed_strips up low upper lower s x) (lower + b) 0
        ≡ low (get_or x (lower + b) 0) (get_or x (upper + b) 0)
    unfolding changed_strips
    changed_lower b h =
        patched_in lower s lows (patched upper s ups x) b h (omega (arith, patched_length upper s ups x))

-- the lower strip added to the upper one, then the old upper one, t times, to the lower one
module _ (t upper lower s : ℕ) (x : List ℕ) (apart : lower + s ≤ upper) where
  up : ℕ → ℕ
  up b = get_or x (upper + b) 0 ⊕ get_or x (lower + b) 0

  pub both_added : (u v : List ℕ) → u ≡ strip_at x upper s → v ≡ strip_at x lower s
      → added_scaled t lower u (added_strip upper v x) ≡ coupled_strips t upper lower s x
  unfolding added_scaled added_strip changed_strips strip_at up
  both_added u v e f =
      ap₂ (λ (m : ℕ) (y : List ℕ). patched lower m (λ b. get_or y (lower + b) 0 ⊕ (t ⊗ get_or u b 0)) y) u_size first
      ∙ patched_ext lower s _ _ (patched upper s up x) second
    where
      u_size : length u ≡ s
      u_size = ap length e ∙ listed_length s _

      v_size : length v ≡ s
      v_size = ap length f ∙ listed_length s _

      entry : (at : ℕ) (w : List ℕ) → w ≡ strip_at x at s → (b : ℕ) → b < s → get_or w b 0 ≡ get_or x (at + b) 0
      entry at w g b h = ap (λ (l : List ℕ). get_or l b 0) g ∙ listed_at s _ b 0 h

      first : patched upper (length v) (λ b. get_or x (upper + b) 0 ⊕ get_or v b 0) x ≡ patched upper s up x
      first =
          ap (λ (m : ℕ). patched upper m (λ b. get_or x (upper + b) 0 ⊕ get_or v b 0) x) v_size
          ∙ patched_ext upper s _ up x (λ b h. ap (λ (a : ℕ). get_or x (upper + b) 0 ⊕ a) (entry lower v f b h))

      second : (b : ℕ) → b < s
          → get_or (patched upper s up x) (lower + b) 0 ⊕ (t ⊗ get_or u b 0)
          ≡ get_or x (lower + b) 0 ⊕ (t ⊗ get_or x (upper + b) 0)
      second b h =
          ap₂ (λ (a c : ℕ). a ⊕ (t ⊗ c)) (patched_out upper s up x (lower + b) (λ l k. omega arith))
          (entry upper u e b h)
