-- `Profile::factor` meets its contract: each return is one case of the factor table.
use mathlib.Core.Path.{◌∙◌}
use native.Mathlib.Omega.{arith}
use Rattle.document.proofs.Factors.{factor_none, factor_one, factor_constant}
use Rattle.document.proofs.Profile.factor.Goals as goal

pub returns-then-row-l : goal.returns-then-row-l
returns-then-row-l c = factor_none c.args.self c.args.i.0 c.args.l c.if-row-l.true

pub returns-then-row-l-2 : goal.returns-then-row-l-2
returns-then-row-l-2 c =
    factor_one c.args.self c.args.i.0 c.args.l c.if-row-l-2.true

pub returns : goal.returns
returns c =
    c.constant.ensures
    ∙ factor_constant c.args.self c.args.i.0 c.args.l
    (omega (arith, c.if-row-l-2.false, c.if-row-l.false))
