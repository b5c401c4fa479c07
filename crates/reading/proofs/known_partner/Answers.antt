-- `reading::known_partner` meets its contract: the node's part of the table is its weights.
use mathlib.Core.Path.{◌≡◌, sym, ap, subst, ◌∙◌}
use mathlib.Core.List.{List}
use Prim.Native.Nat.{ℕ, ◌+◌, ◌-◌, ◌*◌, ◌≤◌}
use native.Mathlib.Omega.{arith}
use lib.ListN.{length, take, drop}
use Rattle.ksets.proofs.Ranked.{risen_length}
use Rattle.strips.specs.Strips.{combination_of}
use Rattle.document.specs.declared.Profile.{Profile}
use Rattle.document.specs.declared.Place.{Place}
use Rattle.document.specs.Places.{Within}
use Rattle.document.specs.Accepted.{Accepted}
use Rattle.document.proofs.Fields.{fields, is_accepted}
use Rattle.document.proofs.Bounds.{room, table_bound}
use Rattle.half_pairs.specs.HalfPairs.{weight_row}
use Rattle.half_pairs.proofs.Named.{joined_partner_within}
use Rattle.half_pairs.proofs.Table.{row_length, weight_table_length, row_at}
use Rattle.reading.specs.Steps.{known_partner_strip}
use Rattle.reading.proofs.Partners.{strip_fits}
use Rattle.reading.proofs.known_partner.Goals.{After-joined_partner-r, Start}
use Rattle.reading.proofs.known_partner.Goals as goal

-- past the partner of strip z
module _ (c : After-joined_partner-r) where
  abbrev p : Profile
  p = c.args.p

  abbrev nodes : List ℕ
  nodes = c.args.nodes.now

  abbrev acc : Accepted p
  acc = is_accepted c.p.view_is c.p.invariant

  abbrev partner : Place
  partner = c.joined_partner-r.result

  within : Within p partner
  within =
      subst (Within p) (sym c.joined_partner-r.ensures)
      (joined_partner_within p acc nodes c.requires.nodes_rising.0 c.args.z c.requires.nodes_rising.2)

  -- the node's part lies within the table
  inside : partner.node.0 * p.k + p.k ≤ 576
  inside =
      omega (arith, room partner.node.0 p.n p.k within.node, table_bound p acc)

  -- what is lent of the table
  part : (w : ℕ) → w ≡ p.k
      → take w (drop (partner.node.0 * p.k) c.args.h.now.table) ≡ weight_row p.k nodes partner.node.0
  part w e =
      ap (λ (m : ℕ). take m (drop (partner.node.0 * p.k) c.args.h.now.table)) e
      ∙ ap (λ (l : List ℕ). take p.k (drop (partner.node.0 * p.k) l)) c.requires.nodes_rising.1.table
      ∙ row_at p acc nodes c.requires.nodes_rising.0 partner.node.0 within.node

  abbrev width : ℕ
  width = partner.node.0 * p.k + p.k - partner.node.0 * p.k

  lent : take width (drop (partner.node.0 * p.k) c.args.h.now.table) ≡ weight_row p.k nodes partner.node.0
  lent = part width (omega arith)

  -- the sum is that of the partner
  summed : combination_of (take width (drop (partner.node.0 * p.k) c.args.h.now.table)) c.args.y.now
      (partner.row.0 * p.s) (p.a * p.s) p.s
      ≡ known_partner_strip p nodes c.args.y.now c.args.z
  unfolding known_partner_strip
  summed =
      ap (λ (l : List ℕ). combination_of l c.args.y.now (partner.row.0 * p.s) (p.a * p.s) p.s) lent
      ∙ ap
      (λ (q : Place). combination_of (weight_row p.k nodes q.node.0) c.args.y.now (q.row.0 * p.s)
      (p.a * p.s) p.s)
      c.joined_partner-r.ensures

  lent_size : length (take width (drop (partner.node.0 * p.k) c.args.h.now.table)) ≡ p.k
  lent_size = ap length lent ∙ row_length p.k nodes partner.node.0 (risen_length c.requires.nodes_rising.0)

pub slice_bounds-combine-end : goal.slice_bounds-combine-end
slice_bounds-combine-end c =
    let w = (goal.at.slice_bounds-combine-end c).After-joined_partner-r in
    let size = ap length c.requires.nodes_rising.1.table
    ∙ weight_table_length (p w) (acc w) (nodes w) c.requires.nodes_rising.0 in
    rw (fields c.p.view_is) (omega (arith, inside w, size))

pub combine-requires : goal.combine-requires
combine-requires c =
    let w = (goal.at.combine-requires c).After-joined_partner-r in
    rw (fields c.p.view_is, fields c.p-2.view_is) (record {
      few = omega (arith, lent_size w, (acc w).shape.some_parity, (acc w).shape.few_nodes);
      short = omega (arith, c.requires.out_len.0, (acc w).short);
      reach = λ q h.
          let r = strip_fits (p w) (acc w) (nodes w) c.requires.nodes_rising.0 (partner w).row.0 q (within w).row
          (omega (arith, h, lent_size w)) in
          omega (arith, r, c.requires.out_len.1);
    })

pub returns : goal.returns
returns c =
    let w = (goal.at.returns c).After-joined_partner-r in
    (rw (fields c.p.view_is, fields c.p-2.view_is) at c.combine.ensures)
    ∙ ap (combination_of _ c.args.y.now ((partner w).row.0 * (p w).s) ((p w).a * (p w).s)) c.requires.out_len.0
    ∙ summed w
