-- `rebuild::Rows::put` meets its contract: the part of the array that was lent holds the row's coefficients.
use mathlib.Core.Path.{ap, ap₂, ◌∙◌}
use mathlib.Core.List.{List}
use Prim.Native.Nat.{ℕ}
use lib.ListN.{length}
use Rattle.lists.proofs.Lent.{front}
use Rattle.rebuild.specs.Rows.{row_from}
use Rattle.rebuild.specs.Column.{row_of}
use Rattle.rebuild.proofs.Coefficients.{coefficients_length}
use Rattle.document.proofs.Fields.{fields}
use Rattle.rebuild.proofs.Rows.put.Goals as goal

pub returns : goal.returns
unfolding row_of
returns c =
    let r = c.args.self.now in
    let held = c.put_coefficients.new.out in
    let written = ap length c.put_coefficients.ensures ∙ coefficients_length r.p r.f r.chosen.now c.args.i in
    (rw (fields c.p.view_is) at c.sum.ensures)
    ∙ ap₂ (λ (at : ℕ) (cs : List ℕ). row_from r.p r.f c.args.i at cs r.folded.now)
    (rw (fields c.p.view_is) at c.position_of-at.ensures) (front held _ written ∙ c.put_coefficients.ensures)
