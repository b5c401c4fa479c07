-- `coupling::add_times` meets its contract: adding once is adding with the factor 1.
use mathlib.Core.Path.{sym, ap, ◌∙◌}
use Prim.Native.Nat.{ℕ}
use native.Mathlib.Omega.{arith}
use Rattle.strips.specs.Strips.{added_scaled}
use Rattle.strips.proofs.Added.{added_once}
use Rattle.coupling.proofs.add_times.Goals as goal

pub returns-then-c-eq1 : goal.returns-then-c-eq1
returns-then-c-eq1 c =
    let a = c.args in
    c.add.ensures
    ∙ added_once 0 a.strip.now a.x.now (λ b. omega (arith, c.type_inv.strip b))
    ∙ ap (λ (v : ℕ). added_scaled v 0 a.strip.now a.x.now) (sym c.if-c-eq1.true)
