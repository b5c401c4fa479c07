-- The tables' rule: what antt computes over a whole table, carried to each entry.
use mathlib.Core.Path.{◌≡◌, ◌∙◌, ap}
use mathlib.Core.Bool.{Bool}
use mathlib.Core.List.{List}
use Prim.Native.Nat.{ℕ, zero, suc, ◌<◌}
use native.Mathlib.Nat.{le_of_suc-le-suc, not-suc-le-zero}
use lib.Dec.{T, eqb, ltb, eqb→eq, ltb→lt}
use lib.ListN.{get_or}
use Rattle.lists.proofs.Listed.{listed_at}
use Rattle.gf256.specs.Field.{power, double, ◌⊕◌, log, log_from, table_of}
use Rattle.gf256.proofs.Test.{every, at}

-- an entry of a table
pub table_at : (f : ℕ → ℕ) {t : List ℕ} → t ≡ table_of f → (k : ℕ) → k < 256 → get_or t k 0 ≡ f k
unfolding table_of
table_at f e k h = ap (λ (t : List ℕ). get_or t k 0) e ∙ listed_at 256 f k 0 h

-- logarithms lie in 0..254
small_log : ℕ → Bool
small_log a = ltb (log a) 255

small_logs : T (every small_log 256)
unfolding small_log log log_from double ◌⊕◌
small_logs = tt

pub log_lt : (a : ℕ) → a < 256 → log a < 255
unfolding small_log
log_lt a h = ltb→lt (log a) 255 (at small_log 256 small_logs a h)

-- every byte but 0 is the power at its logarithm
is_power : ℕ → Bool
is_power a = eqb (power (log (suc a))) (suc a)

are_powers : T (every is_power 255)
unfolding is_power power log log_from double ◌⊕◌
are_powers = tt

pub power_log : (a : ℕ) → 0 < a → a < 256 → power (log a) ≡ a
unfolding is_power
power_log zero p h = absurd (not-suc-le-zero p)
power_log (suc a) p h = eqb→eq (power (log (suc a))) (suc a) (at is_power 255 are_powers a (le_of_suc-le-suc h))
