-- `whaupfield::whaupfield_write_bundle` meets its contract: the answer of writing a bundle, packed.
use mathlib.Core.Path.{ap, ◌∙◌}
use Prim.Native.Nat.{ℕ}
use native.Mathlib.Omega.{arith}
use Rattle.document.specs.Bundle.{longest_bundle}
use Rattle.document.proofs.Values.{write_value}
use Rattle.whaupfield.specs.Packed.{packed_with}
use Rattle.whaupfield.proofs.Values.{packable}
use Rattle.whaupfield.proofs.whaupfield_write_bundle.Goals as goal

pub pack-requires : goal.pack-requires
pack-requires c =
    packable _ _ _ c.write_bundle.ensures longest_bundle (omega arith) (write_value _ _ _ _ _)

pub returns : goal.returns
returns c =
    ap (λ (n : ℕ). (n, c.write_bundle.new.bundle)) c.pack.ensures
    ∙ ap packed_with c.write_bundle.ensures
