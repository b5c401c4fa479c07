-- The laws of `patched`: its length, the entries inside and outside the part, and a loop that writes the part.
use mathlib.Core.Path.{◌≡◌, refl, sym, ap, ap₂, ◌∙◌}
use mathlib.Core.Bool.{Bool, ◌&&◌, cond}
use mathlib.Core.List.{List}
use Prim.Native.Nat.{ℕ, ◌+◌, ◌-◌, ◌≤◌, ◌<◌}
use native.Mathlib.Decide.{ℕ_discrete, dec_lt}
use native.Mathlib.Omega.{arith}
use lib.Dec.{leb, ltb}
use lib.ListN.{length, get_or, set, length-set, get_or-eq_default}
use lib.Seq.{ext_get_or, get_or-set_same, get_or-set_other}
use borrow.Author.Tests.{lt-ltb, le-ltb, le-leb, lt-leb}
use Rattle.lists.specs.Listed.{patched}
use Rattle.lists.proofs.Listed.{listed_length, listed_at}

module _ (at m : ℕ) (f : ℕ → ℕ) (x : List ℕ) where
  pub patched_length : length (patched at m f x) ≡ length x
  unfolding patched
  patched_length = listed_length (length x) _

  patched_at : (p : ℕ) (a b : Bool) → leb at p ≡ a → ltb p (at + m) ≡ b → p < length x
      → get_or (patched at m f x) p 0 ≡ cond (a && b) (f (p - at)) (get_or x p 0)
  unfolding patched
  patched_at p a b d e h =
      listed_at (length x) _ p 0 h ∙ ap₂ (λ (u v : Bool). cond (u && v) (f (p - at)) (get_or x p 0)) d e

  pub patched_in : (b : ℕ) → b < m → at + b < length x → get_or (patched at m f x) (at + b) 0 ≡ f b
  patched_in b h l =
      patched_at (at + b) _ _ (le-leb at (at + b) (omega arith)) (lt-ltb (at + b) (at + m) (omega arith)) l
      ∙ ap f (omega arith)

  pub patched_out : (p : ℕ) → (at ≤ p → p < at + m → ⊥) → get_or (patched at m f x) p 0 ≡ get_or x p 0
  patched_out p n = go (dec_lt p (length x)) (dec_lt p at) (dec_lt p (at + m))
    where
      go : Dec (p < length x) → Dec (p < at) → Dec (p < at + m) → get_or (patched at m f x) p 0 ≡ get_or x p 0
      go (no l) d e =
          let short : length x ≤ p = omega arith in
          let size : length (patched at m f x) ≤ p = omega (arith, patched_length) in
          get_or-eq_default (patched at m f x) 0 size ∙ sym (get_or-eq_default x 0 short)
      go (yes l) (yes d) e = patched_at p _ (ltb p (at + m)) (lt-leb at p d) refl l
      go (yes l) (no d) (yes e) = absurd (n (omega arith) e)
      go (yes l) (no d) (no e) = patched_at p _ _ (le-leb at p (omega arith)) (le-ltb p (at + m) (omega arith)) l

-- what is written turns on f below m alone
pub patched_ext : (at m : ℕ) (f g : ℕ → ℕ) (x : List ℕ) → ((b : ℕ) → b < m → f b ≡ g b)
    → patched at m f x ≡ patched at m g x
patched_ext at m f g x e =
    ext_get_or 0 (patched at m f x) (patched at m g x) (patched_length at m f x ∙ sym (patched_length at m g x))
    (λ p h. go p (omega (arith, patched_length at m f x)) (dec_lt p at) (dec_lt p (at + m)))
  where
    go : (p : ℕ) → p < length x → Dec (p < at) → Dec (p < at + m)
        → get_or (patched at m f x) p 0 ≡ get_or (patched at m g x) p 0
    go p h (yes d) k =
        patched_out at m f x p (λ l q. omega arith) ∙ sym (patched_out at m g x p (λ l q. omega arith))
    go p h (no d) (no k) =
        patched_out at m f x p (λ l q. omega arith) ∙ sym (patched_out at m g x p (λ l q. omega arith))
    go p h (no d) (yes k) =
        let q : at + (p - at) ≡ p = omega arith in
        rw (← q) (patched_in at m f x (p - at) (omega arith) (omega arith) ∙ e (p - at) (omega arith)
        ∙ sym (patched_in at m g x (p - at) (omega arith) (omega arith)))

-- ---- a loop that writes the part from its front
pub patched_none : (at : ℕ) (f : ℕ → ℕ) (x : List ℕ) → x ≡ patched at 0 f x
patched_none at f x =
    ext_get_or 0 x (patched at 0 f x) (sym (patched_length at 0 f x))
    (λ p h. sym (patched_out at 0 f x p (λ l k. omega arith)))

module _ (at m : ℕ) (f : ℕ → ℕ) (x y : List ℕ) (so_far : y ≡ patched at m f x) (fits : at + m < length x) where
  -- the entry to be written next is as it was
  pub patched_next : get_or y (at + m) 0 ≡ get_or x (at + m) 0
  patched_next = rw so_far (patched_out at m f x (at + m) (λ l k. omega arith))

  pub patched_more : (v : ℕ) → v ≡ f m → set y (at + m) v ≡ patched at (m + 1) f x
  patched_more v e =
      ext_get_or 0 (set y (at + m) v) (patched at (m + 1) f x) (size ∙ sym (patched_length at (m + 1) f x))
      (λ p h. go p (ℕ_discrete p (at + m)) (dec_lt p at) (dec_lt p (at + m)))
    where
      same : length y ≡ length x
      same = ap length so_far ∙ patched_length at m f x

      size : length (set y (at + m) v) ≡ length x
      size = length-set y (at + m) v ∙ same

      kept : (p : ℕ) → get_or y p 0 ≡ get_or (patched at m f x) p 0
      kept p = ap (λ (l : List ℕ). get_or l p 0) so_far

      go : (p : ℕ) → Dec (p ≡ at + m) → Dec (p < at) → Dec (p < at + m)
          → get_or (set y (at + m) v) p 0 ≡ get_or (patched at (m + 1) f x) p 0
      go p (yes i) d k =
          rw i (get_or-set_same y (at + m) v 0 (omega (arith, same)) ∙ e
          ∙ sym (patched_in at (m + 1) f x m (omega arith) fits))
      go p (no i) (yes d) k =
          get_or-set_other y (at + m) p v 0 i ∙ kept p ∙ patched_out at m f x p (λ l q. omega arith)
          ∙ sym (patched_out at (m + 1) f x p (λ l q. omega arith))
      go p (no i) (no d) (no k) =
          get_or-set_other y (at + m) p v 0 i ∙ kept p ∙ patched_out at m f x p (λ l q. omega arith)
          ∙ sym (patched_out at (m + 1) f x p (λ l q. omega arith))
      go p (no i) (no d) (yes k) =
          let q : at + (p - at) ≡ p = omega arith in
          get_or-set_other y (at + m) p v 0 i ∙ kept p
          ∙ rw (← q) (patched_in at m f x (p - at) (omega arith) (omega arith)
          ∙ sym (patched_in at (m + 1) f x (p - at) (omega arith) (omega arith)))
