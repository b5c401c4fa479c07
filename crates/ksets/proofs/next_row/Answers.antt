-- `ksets::next_row` meets its contract: each entry is 1 or the sum of two entries of the row above.
use Rattle.std.proofs.Common.{rules}
use Rattle.lists.proofs.Made.{made}
use Rattle.ksets.specs.Workers.{next_at}
use Rattle.ksets.proofs.Pascal.{next_first, next_at_lem}
use Rattle.ksets.proofs.next_row.Goals as goal

pub returns : goal.returns
returns c =
    made _ _ (next_at c.args.row) (λ i y q k. search (rules, next_first, next_at_lem)) 25 0 c.from_fn.result c.from_fn.ensures.items
