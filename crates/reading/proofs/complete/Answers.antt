-- `reading::complete` meets its contract. The invariant: the half pairs before e are completed.
use mathlib.Core.Path.{ap, ◌∙◌}
use Prim.Native.Nat.{◌≤◌}
use native.Mathlib.Omega.{arith}
use borrow.Author.Rules.{rules}
use Rattle.square.specs.Steps.{line_at}
use Rattle.document.specs.Accepted.{Accepted}
use Rattle.half_pairs.proofs.System.{count_few}
use Rattle.reading.specs.Steps.{completed_strip}
use Rattle.reading.proofs.Partners.{completed_none, completed_next}
use Rattle.reading.proofs.complete.Goals.{Start}
use Rattle.reading.proofs.complete.Goals as goal

pub loop-e-init : goal.loop-e-init
loop-e-init c =
    let a = c.args in completed_none a.p a.nodes.now a.lines a.r.now a.y.now

few : (c : Start) → Accepted c.args.p → c.args.h.now.count ≤ 80
few c acc = count_few c.requires.nodes_rising.1 acc c.requires.nodes_rising.0

pub offset_bounds-lines-e : goal.offset_bounds-lines-e
offset_bounds-lines-e c = omega (arith, few (goal.at.offset_bounds-lines-e c).Start (search rules))

pub bounds-lines-e : goal.bounds-lines-e
bounds-lines-e c = omega (arith, few (goal.at.bounds-lines-e c).Start (search rules))

pub loop-e-preserved : goal.loop-e-preserved
loop-e-preserved c =
    let l = c.loop-e in
    let a = c.args in
    c.complete_strip.ensures
    ∙ ap (completed_strip a.p a.nodes.now (line_at a.lines l.e) a.r.now l.e) l.invariant
    ∙ completed_next a.p a.nodes.now a.lines a.r.now a.y.now l.e
