-- `rebuild::Sources::fold` meets its contract. The invariant: the strips of the nodes passed are folded, and m counts
-- their places.
use mathlib.Core.Path.{refl, ap}
use native.Mathlib.Omega.{arith}
use borrow.Author.Rules.{rules}
use lib.ListN.{length, length-append}
use Rattle.document.specs.Profile.{Accepted}
use Rattle.plan.specs.Steps.{places_of}
use Rattle.plan.proofs.Places.{next_places}
use Rattle.rebuild.specs.declared.Sources.{Sources}
use Rattle.rebuild.proofs.Folded.{none_folded, next_strip}
use Rattle.rebuild.proofs.Given.{node_at}
use Rattle.rebuild.proofs.Sources.fold.Goals as goal

pub loop-i-init : goal.loop-i-init
unfolding places_of
loop-i-init c = (c.requires.1, refl, none_folded c.args.self.now.p c.args.self.now.f _ c.args.out.now)

pub fold_at-m-requires-clause-at : goal.fold_at-m-requires-clause-at
fold_at-m-requires-clause-at c =
    let g = c.args.self.now in
    let accepted : Accepted g.p = search rules in
    let at = node_at g.p accepted g.f g.lost c.args.nodes.now c.requires.0 c.loop-i.i c.loop-i-test.true in
    rw (c.from.ensures, c.loop-i.invariant.1) at

pub loop-i-preserved : goal.loop-i-preserved
loop-i-preserved c =
    let l = c.loop-i in
    let g = c.args.self.now in
    let accepted : Accepted g.p = search rules in
    let nodes = c.args.nodes.now in
    let h = c.loop-i-test.true in
    let more = next_places g.p.a g.f nodes l.i h in
    let folded = rw c.from.ensures at c.fold_at-m.ensures in (
      search rules,
      omega (arith, folded.0, l.invariant.1, simp length-append at (ap length more)),
      rw (ap (λ (x : Sources). x.p.s) c.self.view_is)
          (next_strip g.p g.f _ accepted.some_bytes nodes l.i h l.out _ _ l.invariant.2 folded.1),
    )
