-- `half_pairs::weight_table` meets its contract: the part of the table that was lent holds the weights.
use mathlib.Core.Path.{ap}
use mathlib.Core.List.{List, ◌++◌}
use Prim.Native.Nat.{ℕ, ◌*◌}
use lib.ListN.{drop, replicate}
use Rattle.document.proofs.Fields.{fields}
use Rattle.half_pairs.specs.HalfPairs.{weight_table}
use Rattle.half_pairs.proofs.weight_table.Goals as goal

pub returns : goal.returns
unfolding weight_table
returns c =
    let p = c.args.p in
    rw (fields c.p.view_is)
    (ap (λ (l : List ℕ). l ++ drop (p.n * p.k) (replicate 576 0)) c.put_weights.ensures)
