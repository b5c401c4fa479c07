-- `coupling::put_multiple` meets its contract. The invariant: the first b bytes are multiplied.
use mathlib.Core.Path.{sym, ap, ◌∙◌}
use native.Mathlib.Omega.{arith}
use lib.ListN.{get_or}
use Rattle.lists.specs.Listed.{listed}
use Rattle.lists.proofs.Put.{put_whole}
use Rattle.lists.proofs.Written.{written_none, written_all, written_more}
use Rattle.gf256.specs.Field.{◌⊗◌}
use Rattle.coupling.specs.Pairs.{multiple_of}
use Rattle.coupling.proofs.Multiples.{multiple_one}
use Rattle.coupling.proofs.put_multiple.Goals as goal

pub returns-then-d-eq1 : goal.returns-then-d-eq1
returns-then-d-eq1 c =
    c.put_bytes.ensures.holds ∙ put_whole c.args.out.now c.args.strip.now (sym c.requires)
    ∙ multiple_one c.args.d c.args.strip.now c.if-d-eq1.true (λ b. omega (arith, c.type_inv.strip b))

pub loop-b-init : goal.loop-b-init
loop-b-init c = written_none _ _

pub loop-b-preserved : goal.loop-b-preserved
loop-b-preserved c =
    let l = c.loop-b in written_more _ l.b c.args.out.now l.out l.invariant (omega arith) _ c.mul.ensures

pub returns : goal.returns
unfolding multiple_of
returns c =
    let l = c.loop-b in
    written_all _ l.b c.args.out.now l.out l.invariant (omega arith)
    ∙ ap (λ n. listed n (λ b. c.args.d ⊗ get_or c.args.strip.now b 0)) c.requires
