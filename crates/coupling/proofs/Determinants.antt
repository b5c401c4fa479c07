-- The determinant of a pair, case by case, as it is computed. What is divided by is not 0: a determinant, and a factor
-- off the diagonal.
use mathlib.Core.Path.{◌≡◌, sym, ap, ◌∙◌}
use mathlib.Core.Logic.{◌≢◌}
use Prim.Native.Nat.{ℕ, ◌<◌}
use Rattle.gf256.specs.Field.{◌⊕◌}
use Rattle.algebra.specs.Coupling.{pair}
use Rattle.algebra.proofs.Coupling.{factor_ne, pair_diagonal, pair_upper, pair_lower, pair_ne}
use Rattle.document.specs.declared.Profile.{Profile}
use Rattle.document.specs.Profile.{Accepted}
use Rattle.document.specs.ByteField.{bytes, number}
use Rattle.document.specs.Encoding.{constant_of, factor_at}
use Rattle.document.proofs.ByteField.{number_one, number_add, number_above}
use Rattle.document.proofs.Columns.{constant_ne_zero, constant_ne_one}

module _ (p : Profile) where
  pub determinant_none : (i l : ℕ) → i ≡ l → 1 ≡ number (pair bytes (factor_at p) i l)
  determinant_none i l e =
      sym
      (ap (λ (m : ℕ). number (pair bytes (factor_at p) i m)) (sym e)
      ∙ ap number (pair_diagonal bytes (constant_of p) i) ∙ number_one)

  pub determinant_lower : (i l : ℕ) → l < i → 1 ⊕ number (constant_of p i l) ≡ number (pair bytes (factor_at p) i l)
  determinant_lower i l h =
      sym
      (ap number (pair_lower bytes (constant_of p) i l h) ∙ number_add _ _
      ∙ ap (λ (o : ℕ). o ⊕ number (constant_of p i l)) number_one)

  pub determinant_upper : (i l : ℕ) → i < l → 1 ⊕ number (constant_of p l i) ≡ number (pair bytes (factor_at p) i l)
  determinant_upper i l h =
      sym
      (ap number (pair_upper bytes (constant_of p) i l h) ∙ number_add _ _
      ∙ ap (λ (o : ℕ). o ⊕ number (constant_of p l i)) number_one)

  module _ (acc : Accepted p) (i l : ℕ) (row : i < p.a) (column : l < p.a) where
    -- no constant is 1
    pub determinant_above : 0 < number (pair bytes (factor_at p) i l)
    determinant_above = number_above _ (pair_ne bytes (constant_of p) p.a (constant_ne_one p acc) i l row column)

    -- no constant is 0
    pub off_diagonal_above : i ≢ l → 0 < number (factor_at p i l)
    off_diagonal_above d =
        number_above _ (factor_ne bytes (constant_of p) p.a (constant_ne_zero p acc) i l row column d)
