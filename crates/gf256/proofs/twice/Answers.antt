-- `gf256::twice` meets its contract.
use mathlib.Core.Path.{◌≡◌, ap}
use Prim.Native.Nat.{ℕ, ◌*◌, ◌/◌, ◌%◌}
use native.Mathlib.Omega.{arith}
use Rattle.gf256.specs.Field.{double, ◌⊕◌}
use Rattle.gf256.proofs.twice.Goals.{then-a-ge128, else-a-ge128}
use Rattle.gf256.proofs.twice.Goals as goal

pub returns : goal.returns
unfolding double ◌⊕◌
returns c =
    let a = c.before.before.args.a in
    let r = c.before.if-a-ge128.r in
    let e : r ≡ 29 * (a / 128 % 2) = elim c.if-a-ge128.branch [ then-a-ge128 w ↦ omega arith | else-a-ge128 w ↦ omega arith ] in
    ap (λ (d : ℕ). (a * 2 % 256) ⊕ d) e
