-- Lists of one length w, one after the other: a loop that writes part after part.
use mathlib.Core.Path.{◌≡◌, sym, ap, ap₂, ◌∙◌}
use mathlib.Core.List.{List, ◌++◌, append_assoc}
use Prim.Native.Nat.{ℕ, ◌+◌, ◌*◌, ◌/◌, ◌%◌, ◌≤◌, ◌<◌}
use native.Mathlib.Nat.{suc-mul, add-mul, zero-mul, one-mul, mul-le-mul_right}
use native.Mathlib.Omega.{arith}
use lib.Arith.{digits_div, digits_mod, digits_lt}
use lib.ListN.{length, get_or, take, drop, length-drop}
use lib.Seq.{take_at, length-take-le, get_or-take, get_or-drop, ext_get_or}
use Rattle.lists.specs.Listed.{listed}
pub use Rattle.lists.specs.Parts.{parts}
use Rattle.lists.proofs.Listed.{listed_length, listed_at, listed_ext, listed_add, listed_get_or}

module _ (w : ℕ) (f : ℕ → List ℕ) where
  -- before the first part
  pub none_parts : (xs : List ℕ) → take (0 * w) xs ≡ parts w f 0
  unfolding listed
  none_parts xs =
      ap (λ (c : ℕ). take c xs) (zero-mul w)
      ∙ sym (ap (λ (c : ℕ). listed c (λ o. get_or (f (o / w)) (o % w) 0)) (zero-mul w))

  -- one part more
  module _ (i : ℕ) (size : length (f i) ≡ w) where
    parts_next : parts w f (i + 1) ≡ parts w f i ++ f i
    parts_next =
        ap (λ (c : ℕ). listed c (λ o. get_or (f (o / w)) (o % w) 0))
        (add-mul i 1 w ∙ ap (λ (c : ℕ). i * w + c) (one-mul w))
        ∙ listed_add (i * w) w (λ o. get_or (f (o / w)) (o % w) 0)
        ∙ ap (λ (l : List ℕ). parts w f i ++ l)
        (listed_ext w _ (λ b. get_or (f i) b 0)
        (λ b l. ap₂ (λ (y o : ℕ). get_or (f y) o 0) (digits_div i l) (digits_mod i l))
        ∙ ap (λ (c : ℕ). listed c (λ b. get_or (f i) b 0)) (sym size) ∙ listed_get_or 0 (f i))

    pub next_part : (xs ys rest : List ℕ) → take (i * w) xs ≡ parts w f i → ys ≡ f i
        → take ((i + 1) * w) (take (i * w) xs ++ (ys ++ rest)) ≡ parts w f (i + 1)
    next_part xs ys rest h e =
        let more : take (i * w) xs ++ ys ≡ parts w f (i + 1) = ap₂ ◌++◌ h e ∙ sym parts_next in
        ap (take ((i + 1) * w)) (sym (append_assoc (take (i * w) xs) ys rest))
        ∙ take_at (take (i * w) xs ++ ys) rest ((i + 1) * w) (ap length more ∙ listed_length ((i + 1) * w) _) ∙ more

  -- part j of m parts
  pub part_at : (m j : ℕ) → j < m → length (f j) ≡ w → take w (drop (j * w) (parts w f m)) ≡ f j
  part_at m j h size =
      ext_get_or 0 _ (f j) (long ∙ sym size)
      (λ b l.
      let k : b < w = omega (arith, l, long) in
      get_or-take w (drop (j * w) (parts w f m)) b 0 k ∙ get_or-drop (j * w) (parts w f m) b 0
      ∙ listed_at (m * w) (λ o. get_or (f (o / w)) (o % w) 0) (j * w + b) 0 (digits_lt h k)
      ∙ ap₂ (λ (y o : ℕ). get_or (f y) o 0) (digits_div j k) (digits_mod j k))
    where
      inside : j * w + w ≤ m * w
      inside = rw suc-mul at (mul-le-mul_right w h)

      long : length (take w (drop (j * w) (parts w f m))) ≡ w
      long =
          length-take-le w (drop (j * w) (parts w f m))
          (rw length-drop (omega (arith, listed_length (m * w) (λ o. get_or (f (o / w)) (o % w) 0), inside)))
