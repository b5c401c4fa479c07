-- `rebuild::put_rows` meets its contract. The invariant: the rows before the one reached are written.
use mathlib.Core.Path.{◌≡◌, sym, ◌∙◌}
use Prim.Native.Nat.{◌*◌}
use native.Mathlib.Omega.{arith}
use borrow.Author.Rules.{rules}
use lib.Seq.{take_all}
use Rattle.lists.proofs.Parts.{none_parts, next_part}
use Rattle.rebuild.specs.Column.{row_of, rows_of}
use Rattle.rebuild.proofs.Column.{row_length}
use Rattle.document.proofs.Fields.{fields}
use Rattle.rebuild.proofs.put_rows.Goals as goal

pub loop-row-init : goal.loop-row-init
loop-row-init c =
    let a = c.args in
    (c.requires.column_len.0, none_parts a.p.s (row_of a.p a.f a.own.now a.chosen.now a.folded.now) a.column.now)

pub loop-row-preserved : goal.loop-row-preserved
loop-row-preserved c =
    let l = c.loop-row in
    let a = c.args in (
      search rules,
      rw (fields c.p-2.view_is) (next_part a.p.s (row_of a.p a.f a.own.now a.chosen.now a.folded.now) l.row
          (row_length a.p a.f a.own.now a.chosen.now a.folded.now l.row) l.column _ _
          l.invariant.1 c.put.ensures),
    )

pub returns : goal.returns
unfolding rows_of
returns c =
    let l = c.loop-row in
    let a = c.args in
    let e : l.row ≡ a.p.a = rw (← c.p-2.view_is) (omega arith) in
    sym (take_all (a.p.a * a.p.s) l.column (omega (arith, l.invariant.0))) ∙ rw e at l.invariant.1
