-- The change that couples: document 01's three cases, byte by byte, and the array that it leaves.
use mathlib.Core.Path.{◌≡◌, refl, sym, ap, ap₂, ◌∙◌}
use mathlib.Core.List.{List}
use Prim.Native.Nat.{ℕ, ◌+◌, ◌*◌, ◌/◌, ◌%◌, ◌<◌}
use native.Mathlib.Nat.{div-add-mod'}
use native.Mathlib.Decide.{dec_lt}
use native.Mathlib.Omega.{arith}
use lib.ListN.{get_or}
use borrow.Author.Tests.{lt-ltb, le-ltb}
use Rattle.gf256.specs.Field.{◌⊕◌, ◌⊗◌}
use Rattle.document.specs.declared.Profile.{Profile}
use Rattle.document.specs.Profile.{Accepted}
use Rattle.document.specs.Places.{place}
use Rattle.document.specs.ByteField.{byte, number}
use Rattle.document.specs.Encoding.{start, byte_at, constant_of, coupled_at, coupled}
use Rattle.document.proofs.ByteField.{number_byte, number_add, number_mul}
use Rattle.document.proofs.Arrays.{laid_only, coupled_diagonal, coupled_upper, coupled_lower}
use Rattle.coupling.specs.Pairs.{partner_number, pair_changed, coupled_strips, coupled_byte, pair_coupled}
use Rattle.coupling.proofs.Pairs.{old, new, Mixed, all_changed}

module _ (p : Profile) where
  open p use {n, a as A, s as S}

  module _ (i l : ℕ) where
    coupled_none : i ≡ l → coupled_byte p i l ≡ (λ own partner. own)
    unfolding coupled_byte
    coupled_none e = rw (le-ltb i l (omega arith), le-ltb l i (omega arith))

    coupled_once : i < l → coupled_byte p i l ≡ ◌⊕◌
    unfolding coupled_byte
    coupled_once h = rw (lt-ltb i l h)

    coupled_times : l < i → coupled_byte p i l ≡ (λ own partner. own ⊕ (number (constant_of p i l) ⊗ partner))
    unfolding coupled_byte
    coupled_times h = rw (le-ltb i l (omega arith), lt-ltb l i h)

  -- a byte on the diagonal stays
  pub coupled_stays : (i u v : ℕ) → u < 256 → coupled_byte p i i u v ≡ u
  coupled_stays i u v h = ap (λ (f : ℕ → ℕ → ℕ). f u v) (coupled_none i i refl)

  -- an upper strip and its partner, coupled
  pub upper_pair : (z : ℕ) → z % A < z / A % A → (x : List ℕ) {y : List ℕ} {t upper lower : ℕ}
      → y ≡ coupled_strips t upper lower S x
      → t ≡ number (constant_of p (z / A % A) (z % A)) → upper ≡ z * S → lower ≡ partner_number A z * S
      → y ≡ pair_coupled p z x
  unfolding pair_changed
  upper_pair z h x e k u l =
      rw (lt-ltb _ _ h, coupled_once _ _ h, coupled_times _ _ h, ← k, ← u, ← l) e

  module _ (x : List ℕ) (small : (e : ℕ) → get_or x e 0 < 256) where
    module _ (z b : ℕ) where
      own_byte : number (byte_at p x b (place (z / A) (z % A))) ≡ old p x z b
      unfolding byte_at start
      own_byte =
          ap (λ (m : ℕ). number (byte (get_or x (m * S + b) 0))) (div-add-mod' z A)
          ∙ number_byte (get_or x (z * S + b) 0) (small (z * S + b))

      partner_byte : number (byte_at p x b (place (z / A / A * A + z % A) (z / A % A))) ≡ old p x (partner_number A z) b
      unfolding byte_at start
      partner_byte = number_byte (get_or x (partner_number A z * S + b) 0) (small (partner_number A z * S + b))

      -- byte b of strip z, coupled
      coupled_byte_lem : new p (coupled_byte p) x z b ≡ number (coupled_at p (byte_at p x b) (place (z / A) (z % A)))
      coupled_byte_lem = go (dec_lt (z % A) (z / A % A)) (dec_lt (z / A % A) (z % A))
        where
          at : (f : ℕ → ℕ → ℕ) → coupled_byte p (z % A) (z / A % A) ≡ f
              → new p (coupled_byte p) x z b ≡ f (old p x z b) (old p x (partner_number A z) b)
          at f e = ap (λ (g : ℕ → ℕ → ℕ). g (old p x z b) (old p x (partner_number A z) b)) e

          go : Dec (z % A < z / A % A) → Dec (z / A % A < z % A)
              → new p (coupled_byte p) x z b ≡ number (coupled_at p (byte_at p x b) (place (z / A) (z % A)))
          go (yes h) k =
              at _ (coupled_once _ _ h)
              ∙ sym (ap number (coupled_upper p (byte_at p x b) (z / A) (z % A) h) ∙ number_add _ _
              ∙ ap₂ ◌⊕◌ own_byte partner_byte)
          go (no h) (yes k) =
              at _ (coupled_times _ _ k)
              ∙ sym (ap number (coupled_lower p (byte_at p x b) (z / A) (z % A) k) ∙ number_add _ _
              ∙ ap₂ ◌⊕◌ own_byte
              (number_mul _ _ ∙ ap (λ (v : ℕ). number (constant_of p (z % A) (z / A % A)) ⊗ v) partner_byte))
          go (no h) (no k) =
              let e : z % A ≡ z / A % A = omega arith in
              at _ (coupled_none _ _ e)
              ∙ sym (ap number (coupled_diagonal p (byte_at p x b) (z / A) (z % A) e) ∙ own_byte)

    pub all_coupled : Accepted p → (y : List ℕ) → Mixed p (coupled_byte p) x (n * A) y → y ≡ coupled p x
    unfolding coupled
    all_coupled acc y M =
        laid_only p n (λ b. coupled_at p (byte_at p x b)) y M.size
        (λ z b h l. all_changed p (coupled_byte p) x acc y M z b h l ∙ coupled_byte_lem z b)
