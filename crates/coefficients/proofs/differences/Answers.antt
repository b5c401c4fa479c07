-- `coefficients::differences` meets its contract. The invariant: the first i entries are the first i differences.
use mathlib.Core.Path.{ap, ◌∙◌}
use Prim.Native.Nat.{◌<◌}
use native.Mathlib.Omega.{arith}
use lib.ListN.{get_or}
use Rattle.lists.specs.Listed.{listed}
use Rattle.lists.proofs.Written.{written_none, written_all, written_more}
use Rattle.gf256.specs.Field.{◌⊕◌}
use Rattle.document.specs.ByteField.{bytes, byte, number}
use Rattle.coefficients.specs.Weights.{points, differences_of}
use Rattle.coefficients.proofs.Lagrange.{difference}
use Rattle.coefficients.proofs.differences.Goals as goal

pub loop-i-init : goal.loop-i-init
loop-i-init c = written_none _ _

pub loop-i-preserved : goal.loop-i-preserved
unfolding ◌⊕◌
loop-i-preserved c =
    let l = c.loop-i in
    let x = c.args.x in
    let nodes = c.args.nodes.now in
    let b : get_or nodes l.i 0 < 256 = omega (arith, c.type_inv.nodes l.i) in
    written_more _ l.i c.args.out.now l.out l.invariant (omega arith) _
    (difference x (get_or nodes l.i 0) (omega arith) b)

pub returns : goal.returns
unfolding differences_of
returns c =
    let l = c.loop-i in
    written_all _ l.i c.args.out.now l.out l.invariant (omega arith)
    ∙ ap (λ n. listed n (λ j. number (bytes.add (byte c.args.x) (points c.args.nodes.now j)))) c.requires
