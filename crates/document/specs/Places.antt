-- Nodes, rows, places, groups and partners
--
-- place j i       : the place of node j, row i
-- group_of A j     : the group of node j
-- local_column A j : its local column there
-- partner_of A q   : the place coupled with q
-- same_place q r   : the test whether two places are one
-- place_at qs i    : place i of a list of places, from 0
-- Within p q      : the place q has a node and a row of the profile p
use Rattle.std.specs.Prelude.{Bool, ◌&&◌, List, ℕ, ◌+◌, ◌*◌, ◌/◌, ◌%◌, ◌<◌, eqb, get_or}
use Rattle.document.specs.declared.Node.{Node}
use Rattle.document.specs.declared.Place.{Place}
use Rattle.document.specs.declared.Profile.{Profile}

-- 'A place is written node first, then row'
abbrev pub place : ℕ → ℕ → Place
place j i = record { node = record { 0 = j }; row = record { 0 = i } }

-- 'Node j lies in group g = j div A at local column l = j mod A.'
abbrev pub group_of : ℕ → Node → ℕ
group_of A j = j.0 / A

abbrev pub local_column : ℕ → Node → ℕ
local_column A j = j.0 % A

-- 'The partner of row i, node j is row l, node gA+i.'
abbrev pub partner_of : ℕ → Place → Place
partner_of A q = place (group_of A q.node * A + q.row.0) (local_column A q.node)

unfoldable pub same_place : Place → Place → Bool
same_place q r = eqb q.node.0 r.node.0 && eqb q.row.0 r.row.0

abbrev pub place_at : List Place → ℕ → Place
place_at qs i = get_or qs i (place 0 0)

-- A place of the array, 'Nodes and rows count from 0': node below n, row below A.
pub record Within (p : Profile) (q : Place) : Type 0 where
  pub node : q.node.0 < p.n
  pub row : q.row.0 < p.a
