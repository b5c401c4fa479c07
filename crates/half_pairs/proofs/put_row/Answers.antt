-- `half_pairs::put_row` meets its contract.
use mathlib.Core.Path.{◌≡◌, sym, ap, ◌∙◌}
use mathlib.Core.List.{List}
use Prim.Native.Nat.{ℕ, ◌<◌}
use native.Mathlib.Omega.{arith}
use borrow.Author.Rules.{rules}
use lib.ListN.{length, get_or}
use Rattle.lists.specs.Listed.{listed}
use Rattle.lists.specs.Positions.{position_in}
use Rattle.ksets.proofs.Ranked.{risen_length}
use Rattle.document.specs.Accepted.{Accepted}
use Rattle.document.proofs.Fields.{fields, is_accepted}
use Rattle.half_pairs.proofs.Named.{table_length, table_at}
use Rattle.half_pairs.proofs.Table.{row_named, row_other, nodes_different, other_outside}
use Rattle.half_pairs.proofs.put_row.Goals.{Start}
use Rattle.half_pairs.proofs.put_row.Goals as goal

module _ (s : Start) (acc : Accepted s.args.p) where
  below : s.args.j < 24
  below = omega (arith, s.requires.room.2, acc.shape.few_nodes)

  entry : get_or s.args.positions.now s.args.j 0 ≡ position_in s.args.nodes.now s.args.j
  entry = ap (λ (t : List ℕ). get_or t s.args.j 0) s.requires.denominators_value.1 ∙ table_at s.args.nodes.now s.args.j below

pub bounds-positions-j : goal.bounds-positions-j
bounds-positions-j c =
    let size = ap length c.requires.denominators_value.1 ∙ table_length c.args.nodes.now in
    omega (arith, below (goal.at.bounds-positions-j c).Start (search rules), size)

pub returns-then-positions-j : goal.returns-then-positions-j
returns-then-positions-j c =
    let here = rw (fields c.p.view_is) at c.if-positions-j.true in
    let at = entry (goal.at.returns-then-positions-j c).Start (is_accepted c.p.view_is c.p.invariant) in
    c.fill.ensures ∙ ap (λ (m : ℕ). listed m (λ b. 0)) c.requires.room.1
    ∙ row_named c.args.p.k c.args.nodes.now c.args.j (omega (arith, at, here))

pub weights-requires-clause-different : goal.weights-requires-clause-different
weights-requires-clause-different c =
    nodes_different c.args.p (is_accepted c.p.view_is c.p.invariant) c.args.nodes.now c.requires.room.0

pub weights-requires-clause-outside : goal.weights-requires-clause-outside
weights-requires-clause-outside c =
    let acc = is_accepted c.p.view_is c.p.invariant in
    let here = rw (fields c.p.view_is) at c.if-positions-j.false in
    let at = entry (goal.at.weights-requires-clause-outside c).Start acc in
    other_outside c.args.p acc c.args.nodes.now c.requires.room.0 c.args.j (omega (arith, at, here))

pub weights-requires-clause-out_len : goal.weights-requires-clause-out_len
weights-requires-clause-out_len c = c.requires.room.1 ∙ sym (risen_length c.requires.room.0)

pub returns : goal.returns
returns c =
    let here = rw (fields c.p.view_is) at c.if-positions-j.false in
    let at = entry (goal.at.returns c).Start (is_accepted c.p.view_is c.p.invariant) in
    c.weights.ensures ∙ row_other c.args.p.k c.args.nodes.now c.args.j (omega (arith, at, here))
