-- `gf256::table::logs` meets its contract: antt computes the logarithms, and compares the whole table.
use mathlib.Core.Path.{refl}
use Rattle.lists.specs.Listed.{listed}
use Rattle.gf256.specs.Field.{◌⊕◌, double, log, log_from, table_of}
use Rattle.gf256.proofs.table.logs.Goals as goal

pub returns : goal.returns
unfolding table_of listed log log_from double ◌⊕◌
returns c = refl
