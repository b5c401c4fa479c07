-- The product by the lowest bit of the first factor and the bits above it.
use mathlib.Core.Path.{◌≡◌, sym, ap, ap₂, ◌∙◌}
use Prim.Native.Nat.{ℕ, ◌*◌, ◌/◌, ◌%◌, ◌<◌}
use native.Mathlib.Omega.{arith}
use Rattle.gf256.specs.Field.{◌⊕◌, ◌⊗◌, double, reduced}
use Rattle.gf256.proofs.Xor.{add-zero, add_comm, parts}
use Rattle.gf256.proofs.Product.{add-mul, mul_assoc, mul_left_comm, double_two}

-- below 128 the double is the number times 2
double_small : (a : ℕ) → a < 128 → double a ≡ a * 2
unfolding double
double_small a h =
    let e : a * 2 % 256 ≡ a * 2 = omega arith in
    let z : reduced * (a / 128 % 2) ≡ 0 = omega arith in
    ap₂ ◌⊕◌ e z ∙ add-zero (a * 2)

by_bit : (v : ℕ) → v < 256 → v ≡ double (v / 2) ⊕ (v % 2)
by_bit v h = parts 1 v ∙ ap (λ (z : ℕ). z ⊕ (v % 2)) (sym (double_small (v / 2) (omega arith)))

-- what the bits above the lowest give, doubled, and what the lowest gives
pub mul_bit : (v s : ℕ) → v < 256 → v ⊗ s ≡ double ((v / 2) ⊗ s) ⊕ ((v % 2) ⊗ s)
mul_bit v s h =
    ap (λ (z : ℕ). z ⊗ s) (by_bit v h) ∙ add-mul (double (v / 2)) (v % 2) s
    ∙ ap (λ (z : ℕ). z ⊕ ((v % 2) ⊗ s))
    (ap (λ (z : ℕ). z ⊗ s) (double_two (v / 2)) ∙ mul_assoc 2 (v / 2) s ∙ sym (double_two ((v / 2) ⊗ s)))

-- the same, with the second factor doubled
pub mul_turn : (v s : ℕ) → v < 256 → v ⊗ s ≡ ((v % 2) ⊗ s) ⊕ ((v / 2) ⊗ double s)
mul_turn v s h =
    mul_bit v s h ∙ add_comm (double ((v / 2) ⊗ s)) ((v % 2) ⊗ s)
    ∙ ap (λ (z : ℕ). ((v % 2) ⊗ s) ⊕ z)
    (double_two ((v / 2) ⊗ s) ∙ mul_left_comm 2 (v / 2) s ∙ ap (λ (z : ℕ). (v / 2) ⊗ z) (sym (double_two s)))
