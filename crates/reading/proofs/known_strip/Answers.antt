-- `reading::known_strip` meets its contract: the table tells whether the partner is read, and where.
use mathlib.Core.Path.{◌≡◌, sym, ap, ap₂, subst, ◌∙◌}
use mathlib.Core.List.{List}
use Prim.Native.Nat.{ℕ, ◌+◌, ◌-◌, ◌*◌, ◌/◌, ◌%◌, ◌≤◌, ◌<◌}
use native.Mathlib.Nat.{mod-lt}
use native.Mathlib.Omega.{arith}
use lib.Arith.{digits_lt}
use lib.ListN.{length, get_or, take, drop}
use Rattle.gf256.specs.Field.{inverse}
use Rattle.algebra.specs.Coupling.{pair}
use Rattle.ksets.proofs.Ranked.{risen_length}
use Rattle.strips.proofs.Strip.{strip_part}
use Rattle.document.specs.declared.Place.{Place}
use Rattle.document.specs.declared.Profile.{Profile}
use Rattle.document.specs.Places.{partner_of, Within}
use Rattle.document.specs.Accepted.{Accepted}
use Rattle.document.specs.ByteField.{bytes, number}
use Rattle.document.specs.Encoding.{factor_at}
use Rattle.document.proofs.Fields.{fields, is_accepted}
use Rattle.document.proofs.Bounds.{A>0, room, partner_within}
use Rattle.document.proofs.Reading.{joined_within}
use Rattle.lists.specs.Positions.{position_in}
use Rattle.coupling.specs.Pairs.{uncoupled_strip}
use Rattle.coupling.proofs.Determinants.{determinant_above}
use Rattle.half_pairs.specs.HalfPairs.{named, partner_at}
use Rattle.half_pairs.proofs.Named.{table_at}
use Rattle.reading.specs.Steps.{known_strip}
use Rattle.reading.proofs.Known.{known_stored, known_pair}
use Rattle.reading.proofs.known_strip.Goals.{After-partner-r}
use Rattle.reading.proofs.known_strip.Goals as goal

pub joined_place-q-requires : goal.joined_place-q-requires
joined_place-q-requires c =
    (risen_length c.requires.nodes_rising.0, c.requires.nodes_rising.2)

pub partner-r-requires : goal.partner-r-requires
partner-r-requires c =
    let p = c.args.p in
    let acc = is_accepted c.p.view_is c.p.invariant in
    subst (Within p) (sym c.joined_place-q.ensures)
    (joined_within p acc c.args.nodes.now c.requires.nodes_rising.0 c.args.z c.requires.nodes_rising.2)

-- past the partner's place
module _ (c : After-partner-r) where
  abbrev p : Profile
  p = c.args.p

  abbrev nodes : List ℕ
  nodes = c.args.nodes.now

  abbrev x : List ℕ
  x = c.args.columns.now

  abbrev z : ℕ
  z = c.args.z

  abbrev acc : Accepted p
  acc = is_accepted c.p.view_is c.p.invariant

  abbrev other : ℕ
  other = (partner_at p nodes z).node.0

  -- where the table says the partner's node stands
  abbrev at : ℕ
  at = get_or c.args.h.now.positions c.partner-r.result.node.0 0

  abbrev l : ℕ
  l = c.partner-r.result.row.0

  within : Within p (partner_at p nodes z)
  within = partner_within p acc _ (joined_within p acc nodes c.requires.nodes_rising.0 z c.requires.nodes_rising.2)

  partner : c.partner-r.result ≡ partner_at p nodes z
  partner = c.partner-r.ensures ∙ ap (partner_of p.a) c.joined_place-q.ensures

  node : c.partner-r.result.node.0 ≡ other
  node = ap (λ (q : Place). q.node.0) partner

  column : l ≡ named nodes (z / p.a) % p.a
  column = ap (λ (q : Place). q.row.0) partner

  row : c.joined_place-q.result.row.0 ≡ z % p.a
  row = ap (λ (q : Place). q.row.0) c.joined_place-q.ensures

  below : c.partner-r.result.node.0 < 24
  below = omega (arith, node, acc.shape.few_nodes, within.node)

  entry : at ≡ position_in nodes other
  entry =
      ap (λ (t : List ℕ). get_or t c.partner-r.result.node.0 0) c.requires.nodes_rising.1.positions
      ∙ table_at nodes c.partner-r.result.node.0 below
      ∙ ap (position_in nodes) node

  small : (e : ℕ) → get_or x e 0 < 256
  small e = omega (arith, c.type_inv.columns e)

  -- strip z lies within the columns
  own_fits : z * p.s + p.s ≤ p.k * p.a * p.s
  own_fits = room z (p.k * p.a) p.s c.requires.nodes_rising.2

  own_inside : z * p.s + p.s ≤ length x
  own_inside = omega (arith, own_fits, c.requires.out_len.1)

  -- where the partner is read, its strip lies within the columns too
  module _ (near : at < p.k) where
    other_strip : at * p.a + l < p.k * p.a
    other_strip = digits_lt near (omega (arith, column, within.row))

    abbrev from : ℕ
    from = (at * p.a + l) * p.s

    other_fits : from + p.s ≤ p.k * p.a * p.s
    other_fits = room (at * p.a + l) (p.k * p.a) p.s other_strip

    other_inside : from + p.s ≤ length x
    other_inside = omega (arith, other_fits, c.requires.out_len.1)

    -- what `uncouple` leaves of the strips that were lent
    uncoupled : (f d : ℕ) → f ≡ number (factor_at p (z % p.a) (named nodes (z / p.a) % p.a))
        → d ≡ inverse (number (pair bytes (factor_at p) (z % p.a) (named nodes (z / p.a) % p.a)))
        → uncoupled_strip f d (take (z * p.s + p.s - z * p.s) (drop (z * p.s) x)) (take (from + p.s - from) (drop from x))
        ≡ known_strip p nodes x z
    uncoupled f d factor divisor =
        ap₂ (uncoupled_strip f d) (strip_part x (z * p.s) p.s own_inside) (strip_part x from p.s other_inside)
        ∙ known_pair p nodes x acc c.requires.nodes_rising.0 small z c.requires.nodes_rising.2 (omega (arith, near, entry)) f d from
        factor divisor (ap₂ (λ (q l : ℕ). (q * p.a + l) * p.s) entry column)

pub bounds-h-j : goal.bounds-h-j
bounds-h-j c = below (goal.at.bounds-h-j c).After-partner-r

pub slice_bounds-own-end : goal.slice_bounds-own-end
slice_bounds-own-end c =
    rw (fields c.p.view_is) (own_inside (goal.at.slice_bounds-own-end c).After-partner-r)

pub returns-then-at-p : goal.returns-then-at-p
returns-then-at-p c =
    let w = (goal.at.returns-then-at-p c).After-partner-r in
    let far = rw (fields c.p-2.view_is) at c.if-at-p.true in
    (rw (fields c.p.view_is) at c.copy_from_slice.ensures.after) ∙ strip_part (x w) (z w * (p w).s) (p w).s (own_inside w)
    ∙ known_stored (p w) (nodes w) (x w) (acc w) c.requires.nodes_rising.0 (small w) (z w) c.requires.nodes_rising.2
    (omega (arith, far, entry w))

pub slice_bounds-uncouple-end : goal.slice_bounds-uncouple-end
slice_bounds-uncouple-end c =
    let near = rw (fields c.p-2.view_is) at c.if-at-p.false in
    rw (fields c.p.view_is, fields c.p-3.view_is)
    (other_inside (goal.at.slice_bounds-uncouple-end c).After-partner-r near)

-- the determinant is not 0
pub inverse_of-d-requires : goal.inverse_of-d-requires
inverse_of-d-requires c =
    let w = (goal.at.inverse_of-d-requires c).After-partner-r in
    rw c.determinant.ensures
    (determinant_above (p w) (acc w) _ _ (omega (arith, row w, mod-lt (z w) (A>0 (p w) (acc w))))
    (omega (arith, column w, (within w).row)))

pub returns : goal.returns
returns c =
    let w = (goal.at.returns c).After-partner-r in
    let near = rw (fields c.p-2.view_is) at c.if-at-p.false in
    (rw (fields c.p.view_is, fields c.p-3.view_is) at c.uncouple.ensures)
    ∙ uncoupled w near c.factor-f.result c.inverse_of-d.result
    (c.factor-f.ensures ∙ ap₂ (λ (i l : ℕ). number (factor_at (p w) i l)) (row w) (column w))
    (c.inverse_of-d.ensures
    ∙ ap inverse
    (c.determinant.ensures
    ∙ ap₂ (λ (i l : ℕ). number (pair bytes (factor_at (p w)) i l)) (row w) (column w)))
