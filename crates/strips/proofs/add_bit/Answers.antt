-- `strips::add_bit` meets its contract: the lowest bit is the factor.
use mathlib.Core.Path.{◌≡◌, sym, ◌∙◌}
use Prim.Native.Nat.{◌%◌}
use native.Mathlib.Omega.{arith}
use Rattle.strips.proofs.Added.{added_once, added_zero}
use Rattle.strips.proofs.add_bit.Goals as goal

pub returns-then-y-eq1 : goal.returns-then-y-eq1
returns-then-y-eq1 c =
    rw c.if-y-eq1.true (c.add.ensures ∙ added_once _ _ _ (λ b. omega (arith, c.type_inv.strip b)))

pub returns-else-y-eq1 : goal.returns-else-y-eq1
returns-else-y-eq1 c = let e : c.args.y % 2 ≡ 0 = omega arith in rw e (sym (added_zero _ _ _))
