-- `strips::Plane::double_add` meets its contract. The invariant: dst is doubled, with the first j sources added.
use mathlib.Core.Path.{ap, ◌∙◌}
use mathlib.Core.List.{List}
use Prim.Native.Nat.{ℕ, ◌+◌}
use native.Mathlib.Omega.{arith}
use borrow.Author.Rules.{rules}
use lib.Seq.{take_all}
use Rattle.gf256.specs.Field.{double}
use Rattle.strips.specs.Planes.{added_with}
use Rattle.strips.proofs.Passes.{added_more}
use Rattle.strips.proofs.Plane.double_add.Goals as goal

pub loop-j-init : goal.loop-j-init
loop-j-init c = c.pass.ensures double (λ v w h p. search rules)

pub loop-j-preserved : goal.loop-j-preserved
loop-j-preserved c =
    let s = c.args.self.now in
    added_more double s.at.now s.src.now c.args.dst.now c.loop-j.j _ _ c.loop-j.invariant
    (c.pass-in-loop-j.ensures (λ v. v) (λ v w h p. search rules))

pub returns : goal.returns
returns c =
    let s = c.args.self.now in
    c.loop-j.invariant
    ∙ ap (λ (os : List ℕ). added_with double os s.src.now c.args.dst.now) (take_all c.loop-j.j s.at.now (omega arith))

pub returns-2 : goal.returns-2
returns-2 c =
    let s = c.args.self.now in
    let all = added_more double s.at.now s.src.now c.args.dst.now c.loop-j.j _ _ c.loop-j.invariant
    (c.pass-in-loop-j.ensures (λ v. v) (λ v w h p. search rules)) in
    all
    ∙ ap (λ (os : List ℕ). added_with double os s.src.now c.args.dst.now) (take_all (c.loop-j.j + 4) s.at.now (omega arith))
