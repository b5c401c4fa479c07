-- `strips::double_strip` meets its contract.
use mathlib.Core.Path.{ap, ◌∙◌}
use native.Mathlib.Omega.{arith}
use Rattle.gf256.specs.Field.{double}
use Rattle.strips.specs.Strips.{doubled_strip}
use Rattle.lists.proofs.Written.{written_none, written_all, written_next, written_more}
use Rattle.strips.proofs.double_strip.Goals as goal

pub loop-v-init : goal.loop-v-init
loop-v-init c = written_none _ _

pub loop-v-preserved : goal.loop-v-preserved
loop-v-preserved c =
    let l = c.loop-v in
    let strip = c.args.strip.now in
    written_more _ l.v-index strip l.strip l.invariant (omega arith) _
    (c.twice.ensures ∙ ap double (written_next _ l.v-index strip l.strip l.invariant (omega arith)))

pub returns : goal.returns
unfolding doubled_strip
returns c = written_all _ c.loop-v.v-index _ c.loop-v.strip c.loop-v.invariant (omega arith)
