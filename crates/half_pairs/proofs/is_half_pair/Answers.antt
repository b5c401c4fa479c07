-- `half_pairs::is_half_pair` meets its contract: the table has the position of the partner's node.
use mathlib.Core.Path.{◌≡◌, ap, ◌∙◌}
use mathlib.Core.Bool.{not}
use mathlib.Core.List.{List}
use Prim.Native.Nat.{ℕ, ◌<◌}
use native.Mathlib.Omega.{arith}
use borrow.Author.Rules.{rules}
use lib.Dec.{ltb}
use lib.ListN.{length, get_or}
use Rattle.document.specs.declared.Place.{Place}
use Rattle.document.specs.Accepted.{Accepted}
use Rattle.document.proofs.Fields.{fields}
use Rattle.lists.specs.Positions.{position_in}
use Rattle.half_pairs.specs.HalfPairs.{partner_at}
use Rattle.half_pairs.proofs.Named.{joined_partner_within, table_length, table_at}
use Rattle.half_pairs.proofs.is_half_pair.Goals.{After-joined_partner-r}
use Rattle.half_pairs.proofs.is_half_pair.Goals as goal

-- the partner's node is one of at most 24
module _ (c : After-joined_partner-r) where
  node : c.joined_partner-r.result.node.0 ≡ (partner_at c.args.p c.args.nodes.now c.args.z).node.0
  node = ap (λ (q : Place). q.node.0) c.joined_partner-r.ensures

  below : c.joined_partner-r.result.node.0 < 24
  below =
      let acc : Accepted c.args.p = search rules in
      let w = joined_partner_within c.args.p acc c.args.nodes.now c.requires.strip.0 c.args.z c.requires.strip.1 in
      omega (arith, node, acc.shape.few_nodes, w.node)

  entry : get_or c.args.positions.now c.joined_partner-r.result.node.0 0
      ≡ position_in c.args.nodes.now (partner_at c.args.p c.args.nodes.now c.args.z).node.0
  entry =
      ap (λ (t : List ℕ). get_or t c.joined_partner-r.result.node.0 0) c.requires.positions_value
      ∙ table_at c.args.nodes.now c.joined_partner-r.result.node.0 below
      ∙ ap (position_in c.args.nodes.now) node

pub bounds-positions-j : goal.bounds-positions-j
bounds-positions-j c =
    let size = ap length c.requires.positions_value ∙ table_length c.args.nodes.now in
    omega (arith, size, below (goal.at.bounds-positions-j c).After-joined_partner-r)

pub returns : goal.returns
returns c =
    rw (fields c.p.view_is)
    (ap (λ (q : ℕ). not (ltb q c.args.p.k)) (entry (goal.at.returns c).After-joined_partner-r))
