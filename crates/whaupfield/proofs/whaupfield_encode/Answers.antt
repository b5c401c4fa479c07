-- `whaupfield::whaupfield_encode` meets its contract: the answer of encoding, packed.
use mathlib.Core.Path.{ap, ◌∙◌}
use Prim.Native.Nat.{ℕ}
use native.Mathlib.Omega.{arith}
use Rattle.document.proofs.Values.{encode_value}
use Rattle.whaupfield.specs.Packed.{packed_with}
use Rattle.whaupfield.proofs.Values.{packable}
use Rattle.whaupfield.proofs.whaupfield_encode.Goals as goal

pub pack-requires : goal.pack-requires
pack-requires c =
    packable _ _ _ c.encode.ensures 0 (omega arith) (encode_value _ _ _)

pub returns : goal.returns
returns c =
    ap (λ (n : ℕ). (n, c.encode.new.array)) c.pack.ensures ∙ ap packed_with c.encode.ensures
