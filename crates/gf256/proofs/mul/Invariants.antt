-- `gf256::mul` meets its contract. The loop follows `bit_product`: the sum so far, with the product of x and the bits of
-- b from i on, is the product.
use Rattle.std.proofs.Common.{◌≡◌, ◌-◌, ◌/◌, ◌^◌}
use Rattle.gf256.specs.Field.{◌⊕◌, ◌⊗◌, bit_product}
use Rattle.gf256.proofs.mul.Given as goal

abbrev pub invariant-loop-i : goal.invariant-loop-i
invariant-loop-i l = l.r ⊕ bit_product (8 - l.i) l.x (l.b / 2 ^ l.i) ≡ l.a ⊗ l.b
