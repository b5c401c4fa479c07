-- `rebuild::scale` meets its contract: each return is one case of the scale.
use mathlib.Core.Path.{ap₂, ◌∙◌}
use Rattle.gf256.specs.Field.{◌⊕◌}
use Rattle.rebuild.proofs.Factors.{scale_lost, scale_other}
use Rattle.document.proofs.Fields.{fields}
use Rattle.rebuild.proofs.scale.Goals as goal

pub returns-then-i-c : goal.returns-then-i-c
returns-then-i-c c = scale_lost c.args.p c.args.f c.args.i (rw (fields c.p.view_is) at c.if-i-c.true)

pub returns : goal.returns
unfolding ◌⊕◌
returns c =
    ap₂ ◌⊕◌ c.own_scale.ensures (rw (fields c.p.view_is) at c.factor.ensures)
    ∙ scale_other c.args.p c.args.f c.args.i (rw (fields c.p.view_is) at c.if-i-c.false)
