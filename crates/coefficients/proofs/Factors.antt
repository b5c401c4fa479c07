-- All denominators at once: one factor more for each with every node.
use mathlib.Core.Path.{◌≡◌, sym, ap, ◌∙◌}
use mathlib.Core.List.{List, []}
use Prim.Native.Nat.{ℕ, ◌+◌, ◌≤◌, ◌<◌}
use native.Mathlib.Decide.{ℕ_discrete}
use native.Mathlib.Numerals.{add-one}
use lib.ListN.{length, length-set, get_or, take, replicate}
use Rattle.lists.specs.Listed.{listed}
use Rattle.lists.proofs.Listed.{listed_ext}
use Rattle.gf256.specs.Field.{◌⊗◌, products_of}
use Rattle.gf256.proofs.Lists.{products_listed}
use Rattle.algebra.specs.Pick.{pick}
use Rattle.algebra.specs.Weight.{product_but}
use Rattle.algebra.proofs.Weight.{product_next}
use Rattle.document.specs.ByteField.{bytes, Byte, number}
use Rattle.document.proofs.ByteField.{number_one, number_mul}
use Rattle.coefficients.specs.Weights.{points, differences_of, factors_of, padded_to, denominator_of, denominators_of}
use Rattle.coefficients.proofs.Lists.{set_listed, padded_front}
use Rattle.coefficients.proofs.Lagrange.{differences_length}

module _ (nodes : List ℕ) where
  -- the sum of the i-th node and each of the nodes
  abbrev sums : ℕ → ℕ → Byte
  sums i j = bytes.add (points nodes i) (points nodes j)

  -- the denominators as far as the first q nodes
  pub denominators_to : ℕ → List ℕ
  denominators_to q = listed (length nodes) (λ i. number (product_but bytes q i (sums i)))

  -- none yet: ones
  pub denominators_start : (n : ℕ) → length nodes ≤ n → take (length nodes) (replicate n 1) ≡ denominators_to 0
  unfolding denominators_to product_but padded_to
  denominators_start n h =
      padded_front (length nodes) n [] h ∙ listed_ext (length nodes) _ _ (λ i l. sym number_one)

  pub denominators_end : {q : ℕ} → q ≡ length nodes → denominators_to q ≡ denominators_of nodes
  unfolding denominators_to denominators_of denominator_of
  denominators_end e = ap denominators_to e

  pub factors_length : (q : ℕ) → length (factors_of nodes q) ≡ length nodes
  unfolding factors_of
  factors_length q = length-set (differences_of nodes (get_or nodes q 0)) q 1 ∙ differences_length nodes (get_or nodes q 0)

  factors_listed : (q : ℕ) → q < length nodes
      → factors_of nodes q ≡ listed (length nodes) (λ i. number (pick (ℕ_discrete i q) bytes.𝟙 (sums q i)))
  unfolding factors_of differences_of
  factors_listed q h = set_listed (length nodes) q (sums q) h

  pub denominators_step : (q : ℕ) → q < length nodes
      → products_of (denominators_to q) (factors_of nodes q) ≡ denominators_to (q + 1)
  unfolding denominators_to
  denominators_step q h =
      ap (products_of (denominators_to q)) (factors_listed q h)
      ∙ products_listed (length nodes) (λ i. number (product_but bytes q i (sums i)))
      (λ i. number (pick (ℕ_discrete i q) bytes.𝟙 (sums q i)))
      ∙ listed_ext (length nodes) _ _ (λ i l. one i)
    where
      one : (i : ℕ)
          → number (product_but bytes q i (sums i)) ⊗ number (pick (ℕ_discrete i q) bytes.𝟙 (sums q i))
          ≡ number (product_but bytes (q + 1) i (sums i))
      one i =
          sym (number_mul _ _)
          ∙ ap (λ s. number (bytes.mul (product_but bytes q i (sums i)) (pick (ℕ_discrete i q) bytes.𝟙 s)))
          (bytes.add_comm (points nodes q) (points nodes i))
          ∙ ap number (sym (product_next bytes q i (sums i)))
          ∙ ap (λ m. number (product_but bytes m i (sums i))) (sym (add-one q))
