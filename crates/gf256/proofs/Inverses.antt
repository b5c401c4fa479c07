-- The two cases of an inverse, and what each says.
use mathlib.Core.Path.{◌≡◌, refl, sym, ap, ◌∙◌}
use Prim.Native.Nat.{ℕ, zero, suc, ◌<◌}
use native.Mathlib.Omega.{arith}
use borrow.Author.Tests.{eq-eqb, ne_eqb}
use Rattle.std.specs.Prelude.{None, Some}
use Rattle.gf256.specs.Field.{◌⊗◌, inverse, inverted_of}
use Rattle.gf256.proofs.Product.{zero-mul}
use Rattle.gf256.proofs.Powers.{inverse_lt, mul_inverse, inverse_unique}

pub inverted_zero : {a : ℕ} → a ≡ 0 → inverted_of a ≡ None
unfolding inverted_of
inverted_zero {a} e = rw (eq-eqb a 0 e)

pub inverted_above : {a : ℕ} → 0 < a → inverted_of a ≡ Some (inverse a)
unfolding inverted_of
inverted_above {a} p = rw (ne_eqb a 0 (λ e. omega arith))

pub none_zero : (a : ℕ) → inverted_of a ≡ None → a ≡ 0
none_zero zero e = refl
none_zero (suc a) e =
    let other : None ≡ Some (inverse (suc a)) = sym e ∙ inverted_above (omega arith) in
    let z : ◌≡◌ {A = ℕ} 0 1 = cc in
    absurd (omega arith)

pub byte_product : (a b : ℕ) → a < 256 → inverted_of a ≡ Some b → (b < 256) × (a ⊗ b ≡ 1)
byte_product zero b h e =
    let other : None ≡ Some b = sym (inverted_zero refl) ∙ e in
    let z : ◌≡◌ {A = ℕ} 0 1 = cc in
    absurd (omega arith)
byte_product (suc a) b h e =
    let both : Some (inverse (suc a)) ≡ Some b = sym (inverted_above (omega arith)) ∙ e in
    let same : inverse (suc a) ≡ b = cc in
    rw (← same) (inverse_lt (suc a), mul_inverse (omega arith) h)

-- no product with 0 is 1
divisor_above : (a b : ℕ) → a ⊗ b ≡ 1 → 0 < a
divisor_above zero b e = let z : ◌≡◌ {A = ℕ} 0 1 = sym (zero-mul b) ∙ e in omega arith
divisor_above (suc a) b e = omega arith

pub product_byte : (a b : ℕ) → a < 256 → (b < 256) × (a ⊗ b ≡ 1) → inverted_of a ≡ Some b
product_byte a b h (k, e) =
    let p : 0 < a = divisor_above a b e in
    inverted_above p ∙ ap Some (inverse_unique p h k e)
