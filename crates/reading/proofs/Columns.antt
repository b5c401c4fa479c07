-- A column of A strips has AS bytes, whichever way it is made.
use mathlib.Core.Path.{◌≡◌}
use mathlib.Core.Bool.{Bool, true, false, cond}
use mathlib.Core.List.{List}
use Prim.Native.Nat.{ℕ, ◌*◌}
use lib.ListN.{length}
use Rattle.lists.proofs.Listed.{listed_length}
use Rattle.strips.specs.Strips.{combination_of, strip_at}
use Rattle.document.specs.declared.Profile.{Profile}
use Rattle.lists.specs.Positions.{position_in}
use Rattle.half_pairs.specs.HalfPairs.{is_named, weight_row}
use Rattle.reading.specs.Steps.{base_column}

pub column_length : (p : Profile) (nodes y : List ℕ) (j : ℕ) → length (base_column p nodes y j) ≡ p.a * p.s
unfolding base_column combination_of strip_at
column_length p nodes y j = go (is_named k nodes j)
  where
    k : ℕ
    k = p.k

    w : ℕ
    w = p.a * p.s

    go : (t : Bool)
        → length (cond t (strip_at y (position_in nodes j * w) w) (combination_of (weight_row k nodes j) y 0 w w)) ≡ w
    go true = listed_length w _
    go false = listed_length w _
