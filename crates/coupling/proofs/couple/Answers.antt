-- `coupling::couple` meets its contract. The invariant: the pairs whose upper strip lies before z are coupled, all else
-- is as it was.
use mathlib.Core.Path.{◌≡◌, sym, subst}
use Prim.Native.Nat.{ℕ, ◌+◌, ◌*◌}
use native.Mathlib.Omega.{arith}
use Rattle.document.proofs.Fields.{fields, is_accepted}
use Rattle.coupling.specs.Pairs.{coupled_byte}
use Rattle.coupling.proofs.Pairs.{Mixed, none_changed, next_changed}
use Rattle.coupling.proofs.Coupled.{coupled_stays, all_coupled}
use Rattle.coupling.proofs.couple.Goals as goal

pub loop-z-init : goal.loop-z-init
loop-z-init c =
    let acc = is_accepted c.p.view_is c.p.invariant in
    (none_changed c.args.p _ c.args.x.now acc c.requires, λ e. omega (arith, c.type_inv.x e))

pub loop-z-preserved : goal.loop-z-preserved
loop-z-preserved c =
    let acc = is_accepted c.p.view_is c.p.invariant in
    let inside = rw (fields c.p.view_is) at c.loop-z-test.true in (
      subst (Mixed c.args.p _ c.args.x.now (c.loop-z.z + 1)) (sym c.couple_strip.ensures)
          (next_changed c.args.p _ c.args.x.now acc c.loop-z.invariant.1 (coupled_stays c.args.p)
          c.loop-z.z inside c.loop-z.x c.loop-z.invariant.0),
      c.loop-z.invariant.1,
    )

pub returns : goal.returns
returns c =
    let e : c.loop-z.z ≡ c.args.p.n * c.args.p.a = rw (← c.p.view_is) (omega arith) in
    all_coupled c.args.p c.args.x.now c.loop-z.invariant.1 (is_accepted c.p.view_is c.p.invariant) c.loop-z.x
    (subst (λ (m : ℕ). Mixed c.args.p (coupled_byte c.args.p) c.args.x.now m c.loop-z.x) e
    c.loop-z.invariant.0)
