-- `gf256::mul` meets its contract. The loop follows `bit_product`: the sum so far, with the product of x and the bits of
-- b from i on, is the product.
use mathlib.Core.Path.{◌≡◌, sym, ap, ap₂, ◌∙◌}
use Prim.Native.Nat.{ℕ, suc, ◌+◌, ◌-◌, ◌*◌, ◌/◌, ◌%◌, ◌^◌, ◌<◌, ◌≤◌}
use native.Mathlib.Nat.{mod-eq_of_lt, div-one, mul-zero, mul-one}
use native.Mathlib.Numerals.{add-one}
use native.Mathlib.Omega.{arith}
use lib.Pow.{shr-shr}
use Rattle.gf256.specs.Field.{double, ◌⊕◌, ◌⊗◌, bit_product}
use Rattle.gf256.proofs.Xor.{zero-add, add-zero, add_assoc}
use Rattle.gf256.proofs.mul.Goals.{then-b-i-eq1, else-b-i-eq1}
use Rattle.gf256.proofs.mul.Goals as goal

start : (a b : ℕ) → a < 256 → b < 256 → 0 ⊕ bit_product 8 a (b / 1) ≡ a ⊗ b
unfolding ◌⊗◌
start a b h k = zero-add _ ∙ ap (bit_product 8 a) (div-one b) ∙ sym (ap₂ (bit_product 8) (mod-eq_of_lt h) (mod-eq_of_lt k))

-- the turn adds x times bit i of b
turn : (r s x b i : ℕ) → i < 8 → s ≡ r ⊕ (x * (b / 2 ^ i % 2))
    → s ⊕ bit_product (8 - (i + 1)) (double x) (b / 2 ^ (i + 1)) ≡ r ⊕ bit_product (8 - i) x (b / 2 ^ i)
unfolding bit_product
turn r s x b i h e =
    let n : 8 - i ≡ suc (8 - (i + 1)) = omega arith in
    rw (n, e, ← shr-shr b i 1) (add_assoc r (x * (b / 2 ^ i % 2)) (bit_product (8 - (i + 1)) (double x) (b / 2 ^ i / 2)))

odd : (r x y : ℕ) → y % 2 ≡ 1 → r ⊕ x ≡ r ⊕ (x * (y % 2))
odd r x y e = rw (e, mul-one)

even : (r x y : ℕ) → (y % 2 ≡ 1 → ⊥) → r ≡ r ⊕ (x * (y % 2))
even r x y n = let z : y % 2 ≡ 0 = omega arith in rw (z, mul-zero) (sym (add-zero r))

done : (r x y i : ℕ) → 8 ≤ i → r ≡ r ⊕ bit_product (8 - i) x y
unfolding bit_product
done r x y i h = let z : 8 - i ≡ 0 = omega arith in rw z (sym (add-zero r))

pub loop-i-init : goal.loop-i-init
loop-i-init c = start c.args.a c.args.b (omega arith) (omega arith)

pub loop-i-preserved : goal.loop-i-preserved
unfolding ◌⊕◌
loop-i-preserved c =
    let l = c.loop-i in
    let f = c.if-b-i-eq1 in
    let y : ℕ = c.args.b / 2 ^ l.i in
    let e : f.r ≡ l.r ⊕ (l.x * (y % 2)) =
    elim f.branch [
      | then-b-i-eq1 w ↦ cc (odd l.r l.x y w.if-b-i-eq1.true)
      | else-b-i-eq1 w ↦ cc (even l.r l.x y w.if-b-i-eq1.false)
    ] in
    ap (λ (x : ℕ). f.r ⊕ bit_product (8 - (l.i + 1)) x (c.args.b / 2 ^ (l.i + 1))) c.twice-x.ensures
    ∙ turn l.r f.r l.x c.args.b l.i (omega arith) e ∙ l.invariant

pub returns : goal.returns
returns c =
    let l = c.loop-i in
    done l.r l.x _ l.i (omega arith) ∙ l.invariant
