-- No determinant is 0; and the scales, case by case, as the functions return them.
use mathlib.Core.Path.{◌≡◌, sym, ap, ◌∙◌}
use mathlib.Core.Logic.{◌≢◌}
use mathlib.Core.List.{List}
use Prim.Native.Nat.{ℕ, ◌%◌}
use native.Mathlib.Nat.{mod-lt}
use native.Mathlib.Decide.{ℕ_discrete}
use native.Mathlib.Omega.{arith}
use lib.ListN.{length, get_or}
use Rattle.lists.proofs.Listed.{listed_length, listed_at}
use Rattle.gf256.specs.Field.{◌⊕◌, NoZero}
use Rattle.algebra.specs.Rows.{scale}
use Rattle.algebra.proofs.Pick.{pick_yes, pick_no}
use Rattle.document.specs.declared.Profile.{Profile}
use Rattle.document.specs.declared.Node.{Node}
use Rattle.document.specs.Profile.{Accepted}
use Rattle.document.specs.ByteField.{number}
use Rattle.document.specs.Encoding.{factor_at}
use Rattle.document.proofs.Bounds.{A>0}
use Rattle.document.proofs.ByteField.{number_one, number_add}
use Rattle.coupling.proofs.Determinants.{determinant_above}
use Rattle.rebuild.specs.Rows.{determinants_of, own_scale_at, scale_at}

module _ (p : Profile) (f : Node) where
  open p use {a as A}

  -- ---- determinants
  pub determinants_length : (nodes : List ℕ) → length (determinants_of p f nodes) ≡ length nodes
  unfolding determinants_of
  determinants_length nodes = listed_length (length nodes) _

  pub determinants_no_zero : Accepted p → (nodes : List ℕ) → NoZero (determinants_of p f nodes)
  unfolding determinants_of
  determinants_no_zero acc nodes q h =
      rw (listed_at {X = ℕ} (length nodes) _ q 0 (omega (arith, determinants_length nodes)))
      (determinant_above p acc (f.0 % A) (get_or nodes q 0 % A) (mod-lt f.0 (A>0 p acc))
      (mod-lt (get_or nodes q 0) (A>0 p acc)))

  -- ---- scales
  pub scale_lost : (i : ℕ) → i ≡ f.0 % A → 1 ≡ number (scale_at p f i)
  unfolding scale
  scale_lost i e = sym (ap number (pick_yes (ℕ_discrete i (f.0 % A)) _ _ e) ∙ number_one)

  pub scale_other : (i : ℕ) → i ≢ f.0 % A
      → number (own_scale_at p f i) ⊕ number (factor_at p i (f.0 % A)) ≡ number (scale_at p f i)
  unfolding scale
  scale_other i d = sym (ap number (pick_no (ℕ_discrete i (f.0 % A)) _ _ d) ∙ number_add _ _)
