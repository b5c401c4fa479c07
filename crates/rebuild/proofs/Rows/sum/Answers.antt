-- `rebuild::Rows::sum` meets its contract: the folded strips lie past the group's, and strip `own` is one of these.
use mathlib.Core.Path.{◌≡◌, ap, ◌∙◌}
use Prim.Native.Nat.{◌+◌, ◌-◌, ◌*◌, ◌≤◌}
use native.Mathlib.Omega.{arith}
use lib.ListN.{length}
use Rattle.strips.specs.Strips.{combination_of}
use Rattle.strips.proofs.Strip.{strip_part}
use Rattle.document.proofs.Bounds.{room}
use Rattle.document.proofs.Fields.{fields}
use Rattle.rebuild.proofs.Row.{row_lost, row_other}
use Rattle.rebuild.proofs.Rows.sum.Goals as goal

pub returns-then-i-f : goal.returns-then-i-f
returns-then-i-f c =
    let r = c.args.self.now in
    let summed = (rw (fields c.p.view_is) at c.combine.ensures)
    ∙ ap (combination_of c.args.coefficients.now r.folded.now ((r.p.a - 1) * r.p.s) r.p.s) c.requires.lengths.0 in
    let within : c.args.own * r.p.s + r.p.s ≤ length r.folded.now =
    omega (arith, r.long, room c.args.own (r.p.a - 1) r.p.s (c.requires.i_lt_a.1 (rw (fields c.p.view_is) at c.if-i-f.true))) in
    (rw (fields c.p.view_is) at c.add_times.ensures)
    ∙ row_other r.p r.f c.args.i c.args.own c.args.coefficients.now r.folded.now summed
    (strip_part r.folded.now (c.args.own * r.p.s) r.p.s within) c.own_scale-c.ensures (rw (fields c.p.view_is) at c.if-i-f.true)

pub returns-else-i-f : goal.returns-else-i-f
returns-else-i-f c =
    let r = c.args.self.now in
    row_lost r.p r.f c.args.i c.args.own c.args.coefficients.now r.folded.now
    ((rw (fields c.p.view_is) at c.combine.ensures)
    ∙ ap (combination_of c.args.coefficients.now r.folded.now ((r.p.a - 1) * r.p.s) r.p.s) c.requires.lengths.0)
    (rw (fields c.p.view_is) at c.if-i-f.false)
