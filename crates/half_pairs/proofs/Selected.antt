-- A sum over the numbers that pass a test, where the others give zero.
use mathlib.Core.Path.{◌≡◌, refl, sym, ap, ap₂, ◌∙◌}
use mathlib.Core.Bool.{Bool, true, false, cond}
use mathlib.Core.List.{List, [], ◌∷◌, ◌++◌, append-nil}
use Prim.Native.Nat.{ℕ, zero, suc, ◌<◌}
use native.Mathlib.Omega.{arith}
use lib.ListN.{length, get_or}
use Rattle.lists.specs.Listed.{rising}
use Rattle.algebra.specs.Field.{Field}
use Rattle.algebra.specs.Sum.{sum}
use Rattle.algebra.proofs.Field.{add-zero}
use Rattle.algebra.proofs.Sum.{sum_front}

module _ (K : Field) where
  infixl 65 ◌⊕◌
  open K use {carrier as F, 𝟘, add as ◌⊕◌}

  abbrev over : List ℕ → (ℕ → F) → F
  over xs f = sum K (length xs) (λ e. f (get_or xs e 0))

  -- one number more at the end
  over_next : (xs : List ℕ) (m : ℕ) (f : ℕ → F) → over (xs ++ (m ∷ [])) f ≡ over xs f ⊕ f m
  unfolding sum
  over_next [] m f = refl
  over_next (x ∷ xs) m f =
      sum_front K (length (xs ++ (m ∷ []))) _ ∙ ap (λ y. f x ⊕ y) (over_next xs m f)
      ∙ sym (K.add_assoc (f x) (over xs f) (f m)) ∙ ap (λ y. y ⊕ f m) (sym (sum_front K (length xs) _))

  pub sum_rising : (m : ℕ) (P : ℕ → Bool) (f : ℕ → F) → ((y : ℕ) → y < m → P y ≡ false → f y ≡ 𝟘)
      → sum K m f ≡ over (rising m P) f
  unfolding sum rising
  sum_rising zero P f h = refl
  sum_rising (suc m) P f h = go (P m) refl (sum_rising m P f (λ y l. h y (omega arith)))
    where
      go : (b : Bool) → P m ≡ b → sum K m f ≡ over (rising m P) f
          → sum K m f ⊕ f m ≡ over (rising m P ++ cond b (m ∷ []) []) f
      go true e s = ap (λ x. x ⊕ f m) s ∙ sym (over_next (rising m P) m f)
      go false e s =
          ap₂ ◌⊕◌ s (h m (omega arith) e) ∙ add-zero K _ ∙ ap (λ (xs : List ℕ). over xs f) (sym (append-nil (rising m P)))
