-- `strips::gather` meets its contract. The invariant: the offsets of the sources passed are gathered.
use mathlib.Core.Path.{refl, ap, ◌∙◌}
use mathlib.Core.List.{List}
use Prim.Native.Nat.{ℕ, zero-le}
use native.Mathlib.Omega.{arith}
use lib.Seq.{take_all}
use Rattle.strips.specs.Planes.{bits_at, offsets_of}
use Rattle.strips.proofs.Gathered.{gathered}
use Rattle.strips.proofs.gather.Goals as goal

pub loop-q-init : goal.loop-q-init
unfolding offsets_of bits_at
loop-q-init c = (zero-le, refl)

pub loop-q-preserved : goal.loop-q-preserved
loop-q-preserved c =
    let l = c.loop-q in
    let g = c.args in (
      omega arith,
      rw c.from-count.ensures (gathered g.i g.weights.now l.room l.count l.q g.first g.stride (omega arith) (omega arith)
          l.invariant.1),
    )

pub returns : goal.returns
returns c =
    let l = c.loop-q in
    let g = c.args in
    l.invariant.1
    ∙ ap (λ (ws : List ℕ). offsets_of (bits_at g.i ws) g.first g.stride) (take_all l.q g.weights.now (omega arith))
