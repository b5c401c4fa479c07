use Rattle.std.proofs.Common.{◌-◌}
use native.Mathlib.Omega.{arith}
use mathlib.Core.Path.{◌∙◌}
use Rattle.ksets.proofs.Pascal.{row_first, row_fits, row_more}
use Rattle.ksets.proofs.+row_of.Goals as goal

pub returns-then-n-eq0 : goal.returns-then-n-eq0
returns-then-n-eq0 t c = rw c.if-n-eq0.true row_first

pub next_row-requires : goal.next_row-requires
next_row-requires t c = row_fits (c.args.n - 1) (omega arith) _ c.row_of-above.ensures

pub returns : goal.returns
returns t c =
    c.next_row.ensures ∙ row_more c.args.n (omega arith) _ c.row_of-above.ensures
