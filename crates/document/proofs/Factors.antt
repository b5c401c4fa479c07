-- The profile's factors, case by case, as numbers.
use mathlib.Core.Path.{◌≡◌, sym, ap, ◌∙◌}
use Prim.Native.Nat.{ℕ, ◌<◌}
use Rattle.algebra.proofs.Coupling.{factor_diagonal, factor_upper, factor_lower}
use Rattle.document.specs.declared.Profile.{Profile}
use Rattle.document.specs.ByteField.{bytes, number}
use Rattle.document.specs.Encoding.{constant_of, factor_at}
use Rattle.document.proofs.ByteField.{number_zero, number_one}

module _ (p : Profile) where
  pub factor_none : (i l : ℕ) → i ≡ l → 0 ≡ number (factor_at p i l)
  factor_none i l e =
      sym
      (ap (λ (m : ℕ). number (factor_at p i m)) (sym e) ∙ ap number (factor_diagonal bytes (constant_of p) i)
      ∙ number_zero)

  pub factor_one : (i l : ℕ) → i < l → 1 ≡ number (factor_at p i l)
  factor_one i l h = sym (ap number (factor_upper bytes (constant_of p) i l h) ∙ number_one)

  pub factor_constant : (i l : ℕ) → l < i → number (constant_of p i l) ≡ number (factor_at p i l)
  factor_constant i l h = sym (ap number (factor_lower bytes (constant_of p) i l h))
