-- `whaupfield::whaupfield_rebuild` meets its contract: the answer of a rebuild, packed.
use mathlib.Core.Path.{ap, ◌∙◌}
use Prim.Native.Nat.{ℕ}
use native.Mathlib.Omega.{arith}
use native.Mathlib.Nat.{le_of_suc-le-suc}
use Rattle.document.proofs.Values.{rebuild_value}
use Rattle.whaupfield.specs.Packed.{packed_with}
use Rattle.whaupfield.proofs.Values.{packable}
use Rattle.whaupfield.proofs.whaupfield_rebuild.Goals as goal

pub pack-requires : goal.pack-requires
pack-requires c =
    packable _ _ _ c.rebuild.ensures 37 (omega arith) (le_of_suc-le-suc (rebuild_value _ _ _ _ _))

pub returns : goal.returns
returns c =
    ap (λ (n : ℕ). (n, c.rebuild.new.column)) c.pack.ensures ∙ ap packed_with c.rebuild.ensures
