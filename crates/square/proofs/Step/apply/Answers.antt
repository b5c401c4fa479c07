-- `square::Step::apply` meets its contract. A line with the multiplier 0 is left alone, which is what adding 0 times a
-- line gives.
use Rattle.std.proofs.Common.{◌≡◌, arith}
use Rattle.std.proofs.lemmas.List.{length-take-le}
use Rattle.square.proofs.Steps.{stepped_none, stepped_next, stepped_skip}
use Rattle.square.proofs.Step.apply.Goals.{then-self-i-ne0, else-self-i-ne0}
use Rattle.square.proofs.Step.apply.Goals as goal

pub loop-i-init : goal.loop-i-init
loop-i-init c = rw c.lift.ensures (stepped_none _ _ _ _)

pub loop-i-preserved : goal.loop-i-preserved
loop-i-preserved c =
    elim c.if-self-i-ne0.branch [
      | then-self-i-ne0 w ↦
          rw w.line-items-is
          (stepped_next _ _ _ _ c.loop-i.line-items _ (omega arith) c.loop-i.invariant
          (rw c.lift.ensures at w.add.ensures))
      | else-self-i-ne0 w ↦
          rw w.line-items-is
          (stepped_skip _ _ _ _ c.loop-i.line-items _ (omega arith) c.loop-i.invariant w.if-self-i-ne0.false)
    ]

pub returns : goal.returns
returns c =
    let m = c.args.self.now in
    let size = length-take-le m.rows c.lift.new.s (omega (arith, c.lift.array_long, m.inside)) in
    let e : c.loop-i.i ≡ m.rows = omega (arith, size) in
    rw c.lift.ensures (rw e at c.loop-i.invariant)
