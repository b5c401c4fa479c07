-- `gf256::total_of` meets its contract. The invariant: the sum so far, and the sum of the entries left, are the sum of
-- all.
use mathlib.Core.Path.{sym, ◌∙◌}
use native.Mathlib.Omega.{arith}
use Rattle.gf256.specs.Field.{◌⊕◌, total_of}
use Rattle.gf256.proofs.Xor.{zero-add}
use Rattle.gf256.proofs.Lists.{total_step, total_done}
use Rattle.gf256.proofs.total_of.Goals as goal

pub loop-x-init : goal.loop-x-init
loop-x-init c = zero-add (total_of c.args.xs.now)

pub loop-x-preserved : goal.loop-x-preserved
unfolding ◌⊕◌
loop-x-preserved c =
    let l = c.loop-x in
    total_step c.args.xs.now l.total l.x-index (omega arith) ∙ l.invariant

pub returns : goal.returns
returns c =
    let l = c.loop-x in
    sym (total_done c.args.xs.now l.total l.x-index (omega arith)) ∙ l.invariant
