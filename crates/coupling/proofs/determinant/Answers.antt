-- `coupling::determinant` meets its contract: each return is one case of the determinant.
use mathlib.Core.Path.{ap, ◌∙◌}
use Prim.Native.Nat.{ℕ}
use native.Mathlib.Omega.{arith}
use Rattle.gf256.specs.Field.{◌⊕◌}
use Rattle.coupling.proofs.Determinants.{determinant_none, determinant_lower, determinant_upper}
use Rattle.coupling.proofs.determinant.Goals as goal

pub returns-then-l-row : goal.returns-then-l-row
unfolding ◌⊕◌
returns-then-l-row c =
    let a = c.args in
    ap (λ (t : ℕ). 1 ⊕ t) c.constant.ensures
    ∙ determinant_lower a.p a.i.0 a.l c.if-l-row.true

pub returns-then-row-l : goal.returns-then-row-l
unfolding ◌⊕◌
returns-then-row-l c =
    let a = c.args in
    ap (λ (t : ℕ). 1 ⊕ t) c.constant-then-row-l.ensures
    ∙ determinant_upper a.p a.i.0 a.l c.if-row-l.true

pub returns : goal.returns
returns c =
    let a = c.args in
    determinant_none a.p a.i.0 a.l (omega (arith, c.if-row-l.false, c.if-l-row.false))
