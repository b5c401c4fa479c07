-- An array made by std's `array::from_fn`, where each call leaves the closure as it was and gives h of its index, is
-- listed by h.
use Rattle.std.proofs.Common.{◌≡◌, ℕ, zero, suc, ◌+◌, ◌<◌, List, get_or, refl, sym, ap, subst, add-zero, zero-add, ◌∙◌, arith}
use denote.Param.Members.{Mut}
use Rattle.std.specs.Fn.{Called}
use Rattle.std.specs.Array.{IsFromFnResult, IsFromFnResultFrom}
use Rattle.lists.specs.Listed.{listed}
use Rattle.lists.proofs.Listed.{listed_is}

module _ {F B : Type 0} (g : Mut F (ℕ × Unit {0}) B) (f : F) (h : ℕ → B)
    (computes : (i : ℕ) (y : B) (q : F) → Called g f (i, tt) y q → (q ≡ f) × (y ≡ h i)) where
  made_at : (n i k : ℕ) (d : B) (p : F) (ys : List B) → p ≡ f → IsFromFnResultFrom g p ys i n → k < n
      → get_or ys (i + k) d ≡ h (i + k)
  made_at zero i k d p ys e m l = absurd (omega arith)
  made_at (suc n) i zero d p ys e m l =
      let told = computes i m.1 m.0 (subst (λ (x : F). Called g x (i, tt) m.1 m.0) e m.3) in
      ap (λ (j : ℕ). get_or ys j d) (add-zero i) ∙ m.2.1 d ∙ told.1 ∙ ap h (sym (add-zero i))
  made_at (suc n) i (suc k) d p ys e m l =
      let told = computes i m.1 m.0 (subst (λ (x : F). Called g x (i, tt) m.1 m.0) e m.3) in
      let j : i + 1 + k ≡ i + suc k = omega arith in
      ap (λ (j : ℕ). get_or ys j d) (sym j) ∙ made_at n (i + 1) k d m.0 ys told.0 m.4 (omega arith) ∙ ap h j

  pub made : (n : ℕ) (d : B) (ys : List B) → IsFromFnResult g f ys n → ys ≡ listed n h
  made n d ys m = listed_is n h d ys m.long (λ k l. rw zero-add at (made_at n 0 k d f ys refl m.each l))
