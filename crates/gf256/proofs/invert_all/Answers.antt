-- `gf256::invert_all` meets its contract. The invariant: the first entries are the first inverses, and the others are
-- as they were.
use mathlib.Core.Path.{sym, ap, subst, ◌∙◌}
use Prim.Native.Nat.{ℕ, ◌<◌}
use native.Mathlib.Omega.{arith}
use Rattle.lists.proofs.Written.{written_none, written_next, written_all, written_more}
use Rattle.gf256.specs.Field.{inverse, inverses_of}
use Rattle.gf256.proofs.invert_all.Goals as goal

pub loop-x-init : goal.loop-x-init
loop-x-init c = written_none _ _

pub inverse_of-requires : goal.inverse_of-requires
inverse_of-requires c =
    let l = c.loop-x in
    rw (written_next _ l.x-index c.args.xs.now l.xs l.invariant c.loop-x-test.true) (c.requires l.x-index c.loop-x-test.true)

pub loop-x-preserved : goal.loop-x-preserved
loop-x-preserved c =
    let l = c.loop-x in
    let xs = c.args.xs.now in
    written_more _ l.x-index xs l.xs l.invariant (omega arith) _
    (c.inverse_of.ensures ∙ ap inverse (written_next _ l.x-index xs l.xs l.invariant (omega arith)))

pub returns : goal.returns
unfolding inverses_of
returns c = written_all _ c.loop-x.x-index _ c.loop-x.xs c.loop-x.invariant (omega arith)
