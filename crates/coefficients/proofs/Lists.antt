-- Lists of bytes: their sum, one entry replaced by 1, and ones past the last entry.
use mathlib.Core.Path.{◌≡◌, refl, sym, ap, ◌∙◌}
use mathlib.Core.List.{List, [], ◌∷◌, ◌++◌}
use Prim.Native.Nat.{ℕ, zero, suc, ◌≤◌, ◌<◌}
use native.Mathlib.Nat.{le_of_suc-le-suc, not-suc-le-zero}
use native.Mathlib.Decide.{ℕ_discrete}
use lib.ListN.{length, length-set, length-replicate, get_or, set, take, drop, replicate}
use lib.Seq.{ext_get_or, get_or-set_same, get_or-set_other, length_front, length-take-le, set-append_left}
use Rattle.lists.specs.Listed.{listed}
use Rattle.lists.proofs.Listed.{listed_length, listed_at, listed_take, listed_get_or}
use Rattle.gf256.specs.Field.{◌⊕◌, total_of, products_of}
use Rattle.gf256.proofs.Lists.{products_take}
use Rattle.algebra.specs.Pick.{pick}
use Rattle.algebra.proofs.Pick.{pick_yes, pick_no}
use Rattle.algebra.specs.Sum.{sum}
use Rattle.algebra.proofs.Sum.{sum_front}
use Rattle.document.specs.ByteField.{bytes, Byte, number}
use Rattle.document.proofs.ByteField.{number_zero, number_one, number_add}
use Rattle.coefficients.specs.Weights.{padded_to}

-- The sum of a list is the sum in the field.
pub total_listed : (m : ℕ) (f : ℕ → Byte) → total_of (listed m (λ i. number (f i))) ≡ number (sum bytes m f)
unfolding listed total_of sum
total_listed zero f = sym number_zero
total_listed (suc m) f =
    ap (λ (t : ℕ). number (f 0) ⊕ t) (total_listed m (λ i. f (suc i)))
    ∙ sym (number_add (f 0) (sum bytes m (λ i. f (suc i)))) ∙ ap number (sym (sum_front bytes m f))

-- One entry replaced by 1.
module _ (m q : ℕ) (f : ℕ → Byte) where
  abbrev replaced : ℕ → ℕ
  replaced i = number (pick (ℕ_discrete i q) bytes.𝟙 (f i))

  pub set_listed : q < m
      → set (listed m (λ i. number (f i))) q 1 ≡ listed m (λ i. number (pick (ℕ_discrete i q) bytes.𝟙 (f i)))
  set_listed l =
      ext_get_or 0 (set fs q 1) (listed m replaced) (simp (length-set, listed_length))
      (λ i h.
      let b : i < m = simp (length-set, listed_length) at h in
      at i b (ℕ_discrete i q) ∙ sym (listed_at m replaced i 0 b))
    where
      fs : List ℕ
      fs = listed m (λ i. number (f i))

      at : (i : ℕ) → i < m → Dec (i ≡ q) → get_or (set fs q 1) i 0 ≡ replaced i
      at i b (yes e) =
          ap (λ (n : ℕ). get_or (set fs q 1) n 0) e ∙ get_or-set_same fs q 1 0 (simp listed_length l)
          ∙ sym (ap number (pick_yes (ℕ_discrete i q) bytes.𝟙 (f i) e) ∙ number_one)
      at i b (no n) =
          get_or-set_other fs q i 1 0 n ∙ listed_at m (λ i. number (f i)) i 0 b
          ∙ sym (ap number (pick_no (ℕ_discrete i q) bytes.𝟙 (f i) n))

-- ---- a list with ones past it
-- in the front of an array of ones
pub padded_front : (m n : ℕ) (xs : List ℕ) → m ≤ n
    → take m (xs ++ drop (length xs) (replicate n 1)) ≡ padded_to m xs
unfolding padded_to listed
padded_front zero n xs h = refl
padded_front (suc m) zero xs h = absurd (not-suc-le-zero h)
padded_front (suc m) (suc n) [] h = ap (λ (ys : List ℕ). 1 ∷ ys) (padded_front m n [] (le_of_suc-le-suc h))
padded_front (suc m) (suc n) (x ∷ xs) h = ap (λ (ys : List ℕ). x ∷ ys) (padded_front m n xs (le_of_suc-le-suc h))

-- an entry of the front stored anew
module _ (n q : ℕ) (xs : List ℕ) {k : ℕ} (e : length xs ≡ k) where
  pub set_size : k ≤ n → length (set (xs ++ drop k (replicate n 1)) q 1) ≡ n
  set_size h =
      length-set (xs ++ drop k (replicate n 1)) q 1
      ∙ length_front (replicate n 1) xs k (e ∙ sym (length-take-le k (replicate n 1) (rw length-replicate h)))
      ∙ length-replicate n 1

  pub set_front : (m : ℕ) → q < k → m ≤ n
      → take m (set (xs ++ drop k (replicate n 1)) q 1) ≡ padded_to m (set xs q 1)
  set_front m l h =
      ap (take m) (set-append_left xs (drop k (replicate n 1)) q 1 (rw e l))
      ∙ ap (λ (j : ℕ). take m (set xs q 1 ++ drop j (replicate n 1))) (sym (length-set xs q 1 ∙ e))
      ∙ padded_front m n (set xs q 1) h

-- a product with it is one with the list
pub padded_product : (xs ys : List ℕ) {k : ℕ} → length ys ≡ k → k ≤ length xs
    → take k (products_of xs (padded_to (length xs) ys)) ≡ products_of (take k xs) ys
unfolding padded_to
padded_product xs ys {k} e h =
    products_take k xs (padded_to (length xs) ys) h
    ∙ ap (products_of (take k xs))
    (listed_take k (length xs) _ h ∙ ap (λ (n : ℕ). listed n (λ i. get_or ys i 1)) (sym e) ∙ listed_get_or 1 ys)
