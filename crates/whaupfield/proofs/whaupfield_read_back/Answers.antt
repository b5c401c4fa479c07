-- `whaupfield::whaupfield_read_back` meets its contract: the answer of reading back, packed.
use mathlib.Core.Path.{ap, ◌∙◌}
use Prim.Native.Nat.{ℕ}
use native.Mathlib.Omega.{arith}
use Rattle.document.proofs.Values.{read_value}
use Rattle.whaupfield.specs.Packed.{packed_with}
use Rattle.whaupfield.proofs.Values.{packable}
use Rattle.whaupfield.proofs.whaupfield_read_back.Goals as goal

pub pack-requires : goal.pack-requires
pack-requires c =
    packable _ _ _ c.read_back.ensures 0 (omega arith) (read_value _ _ _ _)

pub returns : goal.returns
returns c =
    ap (λ (n : ℕ). (n, c.read_back.new.output)) c.pack.ensures ∙ ap packed_with c.read_back.ensures
