-- `whaupfield::whaupfield_plan` meets its contract: the answer of planning, packed.
use mathlib.Core.Path.{ap, ◌∙◌}
use Prim.Native.Nat.{ℕ}
use native.Mathlib.Omega.{arith}
use Rattle.document.specs.Plan.{max_places}
use Rattle.document.proofs.Values.{plan_value}
use Rattle.whaupfield.specs.Packed.{packed_with}
use Rattle.whaupfield.proofs.Values.{packable}
use Rattle.whaupfield.proofs.whaupfield_plan.Goals as goal

pub pack-requires : goal.pack-requires
pack-requires c =
    packable _ _ _ c.plan.ensures max_places (omega arith) (plan_value _ _ _)

pub returns : goal.returns
returns c =
    ap (λ (n : ℕ). (n, c.plan.new.places)) c.pack.ensures ∙ ap packed_with c.plan.ensures
