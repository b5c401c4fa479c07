-- `half_pairs::partner_coefficient` meets its contract: the factor times the weight, in the row of the place alone.
use mathlib.Core.Path.{◌≡◌, sym, ap, ap₂, ◌∙◌}
use mathlib.Core.List.{List}
use Prim.Native.Nat.{ℕ, ◌+◌, ◌*◌, ◌/◌, ◌%◌, ◌<◌}
use native.Mathlib.Nat.{div-lt_iff_lt-mul}
use native.Mathlib.Omega.{arith}
use lib.Arith.{digits_lt}
use lib.ListN.{length, get_or}
use Rattle.gf256.specs.Field.{◌⊗◌}
use Rattle.ksets.proofs.Ranked.{risen_length}
use Rattle.algebra.specs.HalfPairs.{weight_at}
use Rattle.document.specs.declared.Place.{Place}
use Rattle.document.specs.Accepted.{Accepted}
use Rattle.document.specs.ByteField.{bytes, byte, number}
use Rattle.document.specs.Encoding.{factor_at}
use Rattle.document.proofs.Fields.{fields, is_accepted}
use Rattle.document.proofs.Bounds.{A>0, table_bound}
use Rattle.document.proofs.ByteField.{number_mul}
use Rattle.half_pairs.specs.HalfPairs.{named}
use Rattle.half_pairs.proofs.Table.{weight_table_length, weight_entry}
use Rattle.half_pairs.proofs.System.{coefficient_row, coefficient_part}
use Rattle.half_pairs.proofs.partner_coefficient.Goals.{After-joined_place-q, Start}
use Rattle.half_pairs.proofs.partner_coefficient.Goals as goal

pub joined_place-q-requires : goal.joined_place-q-requires
joined_place-q-requires c = (risen_length c.requires.strip.0, c.requires.strip.1)

-- past the place of strip y
module _ (c : After-joined_place-q) where
  row : c.joined_place-q.result.row.0 ≡ c.args.y % c.args.p.a
  row = ap (λ (q : Place). q.row.0) c.joined_place-q.ensures

  node : c.joined_place-q.result.node.0 ≡ named c.args.nodes.now (c.args.y / c.args.p.a)
  node = ap (λ (q : Place). q.node.0) c.joined_place-q.ensures

pub returns-then-q-r : goal.returns-then-q-r
returns-then-q-r c =
    coefficient_row c.args.p c.args.nodes.now c.args.r c.args.y (λ e. c.if-q-r.true (row (goal.at.returns-then-q-r c).After-joined_place-q ∙ e))

module _ (s : Start) (acc : Accepted s.args.p) where
  column : s.args.y / s.args.p.a < s.args.p.k
  column = (div-lt_iff_lt-mul (A>0 s.args.p acc)).1 s.requires.strip.1

  inside : s.args.r.node.0 * s.args.p.k + s.args.y / s.args.p.a < 576
  inside = omega (arith, digits_lt s.requires.within.0.node column, table_bound s.args.p acc)

  weight : get_or s.args.table.now (s.args.r.node.0 * s.args.p.k + s.args.y / s.args.p.a) 0
      ≡ number
      (weight_at bytes s.args.p.k byte (named s.args.nodes.now) (s.args.y / s.args.p.a)
      s.args.r.node.0)
  weight =
      ap (λ (t : List ℕ). get_or t (s.args.r.node.0 * s.args.p.k + s.args.y / s.args.p.a) 0) s.requires.table_value.0
      ∙ weight_entry s.args.p acc s.args.nodes.now s.requires.strip.0 s.args.r.node.0
      (s.args.y / s.args.p.a) s.requires.within.0.node column s.requires.within.1

pub bounds-table-r : goal.bounds-table-r
bounds-table-r c =
    let acc = is_accepted c.p.view_is c.p.invariant in
    let size = ap length c.requires.table_value.0 ∙ weight_table_length c.args.p acc c.args.nodes.now c.requires.strip.0 in
    rw (fields c.p-2.view_is) (omega (arith, inside (goal.at.bounds-table-r c).Start acc, size))

pub returns : goal.returns
returns c =
    let p = c.args.p in
    let acc = is_accepted c.p.view_is c.p.invariant in
    let placed = (goal.at.returns c).After-joined_place-q in
    (rw (fields c.p-2.view_is) at c.mul.ensures)
    ∙ ap₂ ◌⊗◌
    ((rw (fields c.p.view_is) at c.factor-c.ensures) ∙ ap₂ (λ (i l : ℕ). number (factor_at p i (l % p.a))) (row placed) (node placed))
    (weight (goal.at.returns c).Start acc)
    ∙ sym (number_mul _ _)
    ∙ ap number
    (sym (coefficient_part p c.args.nodes.now c.args.r c.args.y (sym (row placed) ∙ c.if-q-r.false)
    c.requires.table_value.1))
