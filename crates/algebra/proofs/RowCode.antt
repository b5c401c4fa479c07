-- The row code: any k places of a word determine it, and may hold anything.
use mathlib.Core.Path.{◌≡◌, refl, sym, ap, ◌∙◌}
use Prim.Native.Nat.{ℕ, ◌≤◌, ◌<◌}
use native.Mathlib.Omega.{arith}
use native.Mathlib.Decide.{dec_lt}
use Rattle.algebra.specs.Field.{Field}
use Rattle.algebra.specs.Sum.{sum}
use Rattle.algebra.specs.Polynomial.{eval, DistinctPoints}
use Rattle.algebra.specs.Weight.{weight}
use Rattle.algebra.specs.RowCode.{Choice, Codeword}
use Rattle.algebra.proofs.Sum.{sum_ext}
use Rattle.algebra.proofs.Polynomial.{Through, agree, interpolate}
use Rattle.algebra.proofs.Weight.{lagrange}

module _ (K : Field) (n : ℕ) (point : ℕ → K.carrier) (points : DistinctPoints K n point) where
  infixl 70 ◌⊗◌
  open K use {carrier as F, mul as ◌⊗◌}

  -- Different nodes have different points.
  pub chosen : {m : ℕ} {s : ℕ → ℕ} → Choice m n s → DistinctPoints K m (λ i. point (s i))
  chosen {m} {s} C i j l h e = go (dec_lt (s i) (s j))
    where
      go : Dec (s i < s j) → ⊥
      go (yes q) = points (s i) (s j) q (C.below j h) e
      go (no q) = points (s j) (s i) (omega (arith, C.apart i j l h)) (C.below i (omega arith)) (sym e)

  -- Any k places determine the word.
  pub determined : (k : ℕ) (s : ℕ → ℕ) → Choice k n s → {a b : ℕ → F} → Codeword K n point k a → Codeword K n point k b
      → ((i : ℕ) → i < k → a (s i) ≡ b (s i)) → (j : ℕ) → j < n → a j ≡ b j
  determined k s C A B h j l =
      A.at j l ∙ agree K k (λ i. point (s i)) (chosen C) A.poly B.poly same (point j) ∙ sym (B.at j l)
    where
      same : (i : ℕ) → i < k → A.polynomial (point (s i)) ≡ B.polynomial (point (s i))
      same i q = sym (A.at (s i) (C.below i q)) ∙ h i q ∙ B.at (s i) (C.below i q)

  -- A word that has the values y at the m chosen places s.
  abbrev pub Prescribed : ℕ → ℕ → (ℕ → ℕ) → (ℕ → F) → Type 0
  Prescribed k m s y = (a : ℕ → F) × Codeword K n point k a × ((i : ℕ) → i < m → a (s i) ≡ y i)

  -- At k places or fewer any values may be prescribed.
  pub prescribe : (k m : ℕ) (s : ℕ → ℕ) → m ≤ k → Choice m n s → (y : ℕ → F) → Prescribed k m s y
  prescribe k m s l C y = go (interpolate K m (λ i. point (s i)) y (chosen C))
    where
      go : Through K m (λ i. point (s i)) y → Prescribed k m s y
      go (p, e, h) = (λ j. eval K p (point j), word, h)
        where
          word : Codeword K n point k (λ j. eval K p (point j))
          word = record {
            polynomial = eval K p;
            poly = record { coefficients = p; degree = omega arith; value = λ z. refl };
            at = λ j q. refl;
          }

  -- The word at j, from its values at k places.
  pub recover : (k : ℕ) (s : ℕ → ℕ) → Choice k n s → {a : ℕ → F} → Codeword K n point k a
      → (j : ℕ) → j < n → a j ≡ sum K k (λ i. a (s i) ⊗ weight K k (λ i. point (s i)) i (point j))
  recover k s C {a} A j l =
      A.at j l ∙ lagrange K k (λ i. point (s i)) (chosen C) A.poly (point j)
      ∙ sum_ext K k (λ i q. ap (λ x. x ⊗ weight K k (λ i. point (s i)) i (point j)) (sym (A.at (s i) (C.below i q))))
