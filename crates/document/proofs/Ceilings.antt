-- What the ceilings of a profile come to, and that those of the crates below are the same.
use mathlib.Core.Path.{◌≡◌, refl}
use Prim.Native.Nat.{◌-◌, ◌*◌}
use Rattle.ksets.specs.Sets as sets
use Rattle.strips.specs.Strips.{max_sources, max_length}
use Rattle.square.specs.Steps.{side}
use Rattle.document.specs.Profile.{max_nodes, max_rows, max_strip}
use Rattle.document.specs.Ceilings.{Ceilings}
use Rattle.document.proofs.Bounds.{square_bound}
use Rattle.document.proofs.Price.{few_places}
use Rattle.document.proofs.Bundle.{bundle_bound}

-- sets are counted of as many nodes as a profile can have
nodes_counted : sets.max_nodes ≡ max_nodes
nodes_counted = refl

-- a column is a strip to the row code
column_length : max_length ≡ max_rows * max_strip
column_length = refl

-- 'A at most n-k': the largest kA is at the most rows, with as many parity nodes
square_side : side ≡ (max_nodes - max_rows) * max_rows
square_side = refl

-- a line of the square weighs as many strips
sources_side : max_sources ≡ side
sources_side = refl

pub ceilings : Ceilings
ceilings = record { square = square_bound; places = few_places; bundle = bundle_bound }
