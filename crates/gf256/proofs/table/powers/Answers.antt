-- `gf256::table::powers` meets its contract: antt computes the powers of 2, and compares the whole table.
use mathlib.Core.Path.{refl}
use Rattle.lists.specs.Listed.{listed}
use Rattle.gf256.specs.Field.{◌⊕◌, double, power, table_of}
use Rattle.gf256.proofs.table.powers.Goals as goal

pub returns : goal.returns
unfolding table_of listed power double ◌⊕◌
returns c = refl
