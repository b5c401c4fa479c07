-- `gf256::multiply_all` meets its contract. The invariant: the first i entries are the first i products, and the others
-- are as they were.
use mathlib.Core.Path.{ap, ◌∙◌}
use Prim.Native.Nat.{ℕ}
use native.Mathlib.Omega.{arith}
use lib.ListN.{get_or}
use Rattle.lists.proofs.Written.{written_none, written_next, written_all, written_more}
use Rattle.gf256.specs.Field.{◌⊗◌, products_of}
use Rattle.gf256.proofs.multiply_all.Goals as goal

pub loop-i-init : goal.loop-i-init
loop-i-init c = written_none _ _

pub loop-i-preserved : goal.loop-i-preserved
loop-i-preserved c =
    let l = c.loop-i in
    let xs = c.args.xs.now in
    let y = get_or c.args.ys.now l.i 0 in
    written_more _ l.i xs l.xs l.invariant (omega arith) _
    (c.mul.ensures ∙ ap (λ (x : ℕ). x ⊗ y) (written_next _ l.i xs l.xs l.invariant (omega arith)))

pub returns : goal.returns
unfolding products_of
returns c = written_all _ c.loop-i.i _ c.loop-i.xs c.loop-i.invariant (omega arith)
