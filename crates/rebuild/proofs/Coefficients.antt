-- The coefficients of a row: the weights, divided by the determinants, scaled.
use mathlib.Core.Path.{◌≡◌, sym, ap, ap₂, ◌∙◌}
use mathlib.Core.List.{List}
use Prim.Native.Nat.{ℕ, ◌%◌}
use lib.ListN.{length, get_or}
use Rattle.lists.specs.Listed.{listed}
use Rattle.lists.proofs.Listed.{listed_length, listed_ext}
use Rattle.gf256.specs.Field.{◌⊗◌, quotients_of}
use Rattle.algebra.specs.Weight.{weight}
use Rattle.algebra.specs.Rows.{coefficient}
use Rattle.coefficients.specs.Weights.{points, weights_of}
use Rattle.gf256.proofs.Lists.{quotients_listed}
use Rattle.document.specs.declared.Profile.{Profile}
use Rattle.document.specs.declared.Node.{Node}
use Rattle.document.specs.ByteField.{bytes, Byte, byte, number}
use Rattle.document.proofs.ByteField.{number_mul, number_inv}
use Rattle.coupling.specs.Pairs.{multiple_of}
use Rattle.coupling.proofs.Multiples.{multiple_listed}
use Rattle.rebuild.specs.Rows.{member_at, determinant_at, determinants_of, scale_at, coefficients_of}

module _ (p : Profile) (f : Node) (nodes : List ℕ) (i : ℕ) where
  open p use {k, a as A}

  -- the weight of chosen node q among the first m, divided by its determinant
  abbrev share : ℕ → ℕ → Byte
  share m q =
      bytes.mul (weight bytes m (points nodes) q (byte (member_at p f i)))
      (bytes.inv (determinant_at p f (get_or nodes q 0 % A)))

  shares : quotients_of (weights_of nodes (member_at p f i)) (determinants_of p f nodes)
      ≡ listed (length nodes) (λ q. number (share (length nodes) q))
  unfolding weights_of determinants_of
  shares =
      quotients_listed (length nodes) _ _
      ∙ listed_ext (length nodes) _ _
      (λ q h. ap (λ (d : ℕ). number (weight bytes (length nodes) (points nodes) q (byte (member_at p f i))) ⊗ d)
      (sym (number_inv (determinant_at p f (get_or nodes q 0 % A)))) ∙ sym (number_mul _ _))

  pub shares_length : length (quotients_of (weights_of nodes (member_at p f i)) (determinants_of p f nodes)) ≡ length nodes
  shares_length = ap length shares ∙ listed_length (length nodes) _

  pub coefficients_length : length (coefficients_of p f nodes i) ≡ k
  unfolding coefficients_of
  coefficients_length = listed_length k _

  pub coefficients_scaled : {c : ℕ} {w : List ℕ} → length nodes ≡ k → c ≡ number (scale_at p f i)
      → w ≡ quotients_of (weights_of nodes (member_at p f i)) (determinants_of p f nodes)
      → multiple_of c w ≡ coefficients_of p f nodes i
  unfolding coefficients_of coefficient
  coefficients_scaled same scaled divided =
      ap₂ multiple_of scaled
      (divided ∙ shares ∙ ap (λ (m : ℕ). listed m (λ q. number (share m q))) same)
      ∙ multiple_listed (number (scale_at p f i)) k (λ q. number (share k q))
      ∙ listed_ext k _ _ (λ q h. sym (number_mul (scale_at p f i) (share k q)))
