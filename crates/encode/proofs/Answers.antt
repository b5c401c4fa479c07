-- The answer of encoding, by what is found on the way.
use Rattle.std.specs.Prelude.{Ok, Err}
use mathlib.Core.Path.{◌≡◌, sym, ap, ap₂, ◌∙◌}
use mathlib.Core.Bool.{Bool, false, ◌&&◌}
use mathlib.Core.List.{List}
use Prim.Native.Nat.{ℕ, ◌*◌}
use lib.Dec.{eqb}
use lib.ListN.{length}
use borrow.Author.Tests.{eq-eqb, ne_eqb}
use Rattle.document.specs.declared.Profile.{Profile}
use Rattle.document.specs.declared.Refusal.TheVariants.{BufferLength}
use Rattle.document.specs.Refusals.{tried}
use Rattle.document.specs.Profile.{Accepted}
use Rattle.document.specs.Encoding.{plain, coupled, encode_tests, encode_with}
use Rattle.document.proofs.Arrays.{plain_coupled}

module _ (p : Profile) (d x : List ℕ) where
  -- only the lengths are left to try
  refused : eqb (length d) (p.k * p.a * p.s) && eqb (length x) (p.n * p.a * p.s) ≡ false
      → (Err BufferLength, x) ≡ encode_with p d x
  unfolding encode_with encode_tests tried
  refused f = sym (simp f)

  pub data_refused : (length d ≡ p.k * p.a * p.s → ⊥) → (Err BufferLength, x) ≡ encode_with p d x
  data_refused n = refused (ap (λ (b : Bool). b && eqb (length x) (p.n * p.a * p.s)) (ne_eqb _ _ n))

  module _ (size : length d ≡ p.k * p.a * p.s) where
    pub array_refused : (length x ≡ p.n * p.a * p.s → ⊥) → (Err BufferLength, x) ≡ encode_with p d x
    array_refused n = refused (ap₂ ◌&&◌ (eq-eqb _ _ size) (ne_eqb _ _ n))

    pub done : Accepted p → length x ≡ p.n * p.a * p.s → {y : List ℕ} → y ≡ coupled p (plain p d)
        → (Ok 0, y) ≡ encode_with p d x
    unfolding encode_with encode_tests tried
    done acc room f =
        ap (λ (z : List ℕ). (Ok 0, z)) (f ∙ plain_coupled p acc d)
        ∙ sym (simp (eq-eqb _ _ size, eq-eqb _ _ room))
