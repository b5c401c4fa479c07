-- `rebuild::put_rows` meets its contract. The invariant: the rows before the one reached are written.
use mathlib.Core.Path.{◌≡◌}
use Prim.Native.Nat.{◌*◌}
use lib.ListN.{length, take}
use Rattle.rebuild.specs.Column.{row_of}
use Rattle.lists.proofs.Parts.{parts}
use Rattle.rebuild.proofs.put_rows.Given as goal

abbrev pub invariant-loop-row : goal.invariant-loop-row
invariant-loop-row l =
    let r = l.fn in
    (length l.column ≡ r.p.a * r.p.s)
    × (take (l.row * r.p.s) l.column ≡ parts r.p.s (row_of r.p r.f r.own r.chosen r.folded) l.row)
