-- `ksets::count` meets its contract: an entry of Pascal's row, and none past it.
use mathlib.Core.Path.{sym}
use native.Mathlib.Omega.{arith}
use Rattle.ksets.proofs.Pascal.{sets_none, row_at}
use Rattle.ksets.proofs.count.Goals as goal

pub returns-then-k-gt-MAX_NODES : goal.returns-then-k-gt-MAX_NODES
returns-then-k-gt-MAX_NODES c = sym (sets_none c.before.args.n c.before.args.k (omega arith))

pub returns : goal.returns
returns c =
    let a = c.before.before.args in
    row_at a.n a.k c.row_of-row.result c.row_of-row.ensures (omega arith)
