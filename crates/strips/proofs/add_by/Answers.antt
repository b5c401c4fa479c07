-- `strips::add_by` meets its contract. The invariant: what f gives of the first b bytes of the strip is added.
use native.Mathlib.Omega.{arith}
use Rattle.gf256.specs.Field.{◌⊕◌}
use Rattle.strips.proofs.Added.{adding_none, adding_more, adding_all}
use Rattle.strips.proofs.add_by.Goals as goal

pub loop-b-init : goal.loop-b-init
loop-b-init g c = λ h k. adding_none

pub loop-b-preserved : goal.loop-b-preserved
unfolding ◌⊕◌
loop-b-preserved g c =
    λ h k. adding_more (c.loop-b.invariant h k) (omega arith) c.requires.fits (k _ _ (omega (arith, c.type_inv.src c.loop-b.b)) c.f.ensures)

pub returns : goal.returns
returns g c = λ h k. adding_all (c.loop-b.invariant h k) c.loop-b-test.false
