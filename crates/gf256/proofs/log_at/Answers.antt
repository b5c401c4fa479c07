-- `gf256::log_at` meets its contract by the rule of the table of logarithms.
use mathlib.Core.Path.{◌≡◌, ◌∙◌}
use native.Mathlib.Omega.{arith}
use Rattle.gf256.specs.Field.{log}
use Rattle.gf256.proofs.Tables.{table_at, log_lt}
use Rattle.gf256.proofs.log_at.Goals as goal

pub returns : goal.returns
returns c =
    let a = c.args.a in
    let e : c.from-2.result ≡ log a =
    c.from-2.ensures ∙ rw c.from.ensures (table_at log c.logs.ensures a (omega arith)) in
    (e, omega (arith, e, log_lt a))
