-- `strips::combine` meets its contract. The invariant: dst is the combination with the weights' bits from i on.
use mathlib.Core.Path.{◌≡◌, ap, ◌∙◌}
use Prim.Native.Nat.{ℕ, ◌-◌}
use native.Mathlib.Omega.{arith}
use borrow.Author.Rules.{rules}
use lib.ListN.{length}
use Rattle.strips.specs.Strips.{combination_of}
use Rattle.strips.specs.Planes.{shifted_by}
use Rattle.strips.proofs.Combination.{horner, horner_none, horner_all}
use Rattle.strips.proofs.Gathered.{gathered_inside, plane_gathered}
use Rattle.strips.proofs.Strip.{replicated}
use Rattle.strips.proofs.combine.Goals as goal

pub loop-i-init : goal.loop-i-init
loop-i-init c =
    let g = c.args in
    c.fill.ensures.after (search rules) ∙ replicated (length g.dst.now) 0
    ∙ horner_none g.weights.now g.src.now g.first g.stride (length g.dst.now) (λ q. omega (arith, c.type_inv.weights q))

pub invariant_of-double_add : goal.invariant_of-double_add
invariant_of-double_add c =
    let g = c.args in
    record {
      short = c.requires.short;
      inside = rw c.gather-at.ensures
          (gathered_inside (c.loop-i.i - 1) g.weights.now g.first g.stride (length g.dst.now) (length g.src.now) c.requires.reach);
    }

pub loop-i-preserved : goal.loop-i-preserved
loop-i-preserved c =
    let g = c.args in
    let l = c.loop-i in
    horner l.i g.weights.now g.src.now g.first g.stride (length g.dst.now) l.dst _
    (λ q. omega (arith, c.type_inv.weights q)) (omega arith) l.invariant
    (plane_gathered (l.i - 1) g.weights.now g.src.now l.dst g.first g.stride _ _
    (λ p. omega (arith, c.type_inv.src p)) c.gather-at.ensures c.double_add.ensures)

pub returns : goal.returns
returns c =
    let g = c.args in
    let e : c.loop-i.i ≡ 0 = omega arith in
    c.loop-i.invariant
    ∙ ap (λ (i : ℕ). combination_of (shifted_by i g.weights.now) g.src.now g.first g.stride (length g.dst.now)) e
    ∙ horner_all g.weights.now g.src.now g.first g.stride (length g.dst.now)
