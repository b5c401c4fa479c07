-- `reading::put_column` meets its contract.
use mathlib.Core.Path.{◌≡◌, sym, ap, ap₂, ◌∙◌}
use mathlib.Core.Bool.{cond}
use mathlib.Core.List.{List}
use Prim.Native.Nat.{ℕ, ◌+◌, ◌-◌, ◌*◌, ◌≤◌, ◌<◌}
use native.Mathlib.Nat.{mul_assoc}
use native.Mathlib.Omega.{arith}
use lib.ListN.{length, get_or, take, drop}
use borrow.Author.Tests.{lt-ltb, le-ltb}
use Rattle.ksets.proofs.Ranked.{risen_length}
use Rattle.strips.specs.Strips.{combination_of, strip_at}
use Rattle.strips.proofs.Strip.{strip_part}
use Rattle.document.specs.Accepted.{Accepted}
use Rattle.document.proofs.Fields.{fields, is_accepted}
use Rattle.document.proofs.Bounds.{room, table_bound, column_bound, data_bound}
use Rattle.lists.specs.Positions.{position_in}
use Rattle.half_pairs.specs.HalfPairs.{weight_row}
use Rattle.half_pairs.proofs.Named.{table_at}
use Rattle.half_pairs.proofs.Table.{row_length, row_at, weight_table_length}
use Rattle.reading.specs.Steps.{base_column}
use Rattle.reading.proofs.put_column.Goals.{Start}
use Rattle.reading.proofs.put_column.Goals as goal

module _ (s : Start) (acc : Accepted s.args.p) where
  abbrev k : ℕ
  k = s.args.p.k

  abbrev width : ℕ
  width = s.args.p.a * s.args.p.s

  below : s.args.j < 24
  below = omega (arith, s.requires.nodes_rising.2, acc.shape.few_nodes)

  -- where the node stands among the named ones
  position : get_or s.args.h.now.positions s.args.j 0 ≡ position_in s.args.nodes.now s.args.j
  position = ap (λ (t : List ℕ). get_or t s.args.j 0) s.requires.nodes_rising.1.positions ∙ table_at s.args.nodes.now s.args.j below

  -- the strips are k columns
  whole : length s.args.y.now ≡ k * width
  whole = s.requires.out_len.1 ∙ mul_assoc k s.args.p.a s.args.p.s

  large : k * width ≤ 40960
  large = omega (arith, mul_assoc k s.args.p.a s.args.p.s, data_bound s.args.p acc)

  -- the column of a named node lies within them
  column : (m : ℕ) → m < k → m * width + width ≤ k * width
  column m h = room m k width h

  -- the node's part lies within the table
  inside : s.args.j * k + k ≤ 576
  inside = omega (arith, room s.args.j s.args.p.n k s.requires.nodes_rising.2, table_bound s.args.p acc)

  -- what is lent of the table
  part : (w : ℕ) → w ≡ k → take w (drop (s.args.j * k) s.args.h.now.table) ≡ weight_row k s.args.nodes.now s.args.j
  part w e =
      ap (λ (m : ℕ). take m (drop (s.args.j * k) s.args.h.now.table)) e
      ∙ ap (λ (l : List ℕ). take k (drop (s.args.j * k) l)) s.requires.nodes_rising.1.table
      ∙ row_at s.args.p acc s.args.nodes.now s.requires.nodes_rising.0 s.args.j s.requires.nodes_rising.2

pub bounds-h-j : goal.bounds-h-j
bounds-h-j c =
    below (goal.at.bounds-h-j c).Start (is_accepted c.p.view_is c.p.invariant)

pub returns-then-at-k : goal.returns-then-at-k
unfolding base_column
returns-then-at-k c =
    let s = (goal.at.returns-then-at-k c).Start in
    let acc = is_accepted c.p.view_is c.p.invariant in
    let here = rw (fields c.p.view_is) at c.if-at-k.true in
    let nodes = c.args.nodes.now in
    let y = c.args.y.now in
    let j = c.args.j in
    let w : ℕ = width s acc in
    let near : position_in nodes j < k s acc = omega (arith, position s acc, here) in
    (rw (fields c.p.view_is) at c.copy_from_slice.ensures.after)
    ∙ strip_part y (get_or c.args.h.now.positions j 0 * w) w (omega (arith, column s acc _ here, whole s acc))
    ∙ ap (λ (m : ℕ). strip_at y (m * w) w) (position s acc)
    ∙ sym (ap (λ b. cond b (strip_at y (position_in nodes j * w) w) (combination_of (weight_row (k s acc) nodes j) y 0 w w))
    (lt-ltb _ _ near))

pub slice_bounds-combine-end : goal.slice_bounds-combine-end
slice_bounds-combine-end c =
    let acc = is_accepted c.p.view_is c.p.invariant in
    let size = ap length c.requires.nodes_rising.1.table
    ∙ weight_table_length c.args.p acc c.args.nodes.now c.requires.nodes_rising.0 in
    rw (fields c.p.view_is) (omega (arith, inside (goal.at.slice_bounds-combine-end c).Start acc, size))

pub combine-requires : goal.combine-requires
combine-requires c =
    let s = (goal.at.combine-requires c).Start in
    let acc = is_accepted c.p.view_is c.p.invariant in
    let k : ℕ = c.args.p.k in
    let few : k ≤ 24 = omega (arith, acc.shape) in
    let size = ap length (part s acc (c.args.j * k + k - c.args.j * k) (omega arith))
    ∙ row_length k c.args.nodes.now c.args.j (risen_length c.requires.nodes_rising.0) in
    rw (fields c.p.view_is) (record {
      few = omega (arith, size, few);
      short = omega (arith, c.requires.out_len.0, column_bound c.args.p acc);
      reach = λ q h. omega (arith, column s acc q (omega (arith, size, h)), whole s acc, c.requires.out_len.0);
    })

pub returns : goal.returns
unfolding base_column
returns c =
    let s = (goal.at.returns c).Start in
    let acc = is_accepted c.p.view_is c.p.invariant in
    let there = rw (fields c.p.view_is) at c.if-at-k.false in
    let nodes = c.args.nodes.now in
    let y = c.args.y.now in
    let j = c.args.j in
    let w : ℕ = width s acc in
    let far : k s acc ≤ position_in nodes j = omega (arith, position s acc, there) in
    (rw (fields c.p.view_is) at c.combine.ensures)
    ∙ ap₂ (λ (l : List ℕ) (m : ℕ). combination_of l y 0 w m)
    (part s acc (j * k s acc + k s acc - j * k s acc) (omega arith)) c.requires.out_len.0
    ∙ sym (ap (λ b. cond b (strip_at y (position_in nodes j * w) w) (combination_of (weight_row (k s acc) nodes j) y 0 w w))
    (le-ltb _ _ far))
