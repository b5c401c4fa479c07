-- `gf256::inverse_of` meets its contract by the rule of the table of powers.
use mathlib.Core.Path.{sym, ap, ◌∙◌}
use Prim.Native.Nat.{ℕ, ◌-◌}
use native.Mathlib.Omega.{arith}
use Rattle.gf256.specs.Field.{power}
use Rattle.gf256.proofs.Tables.{table_at}
use Rattle.gf256.proofs.Powers.{inverse_power}
use Rattle.gf256.proofs.inverse_of.Goals as goal

pub returns : goal.returns
returns c =
    table_at power c.powers.ensures _ (omega arith) ∙ ap (λ (n : ℕ). power (255 - n)) c.log_at.ensures.0
    ∙ sym (inverse_power c.requires (omega arith))
