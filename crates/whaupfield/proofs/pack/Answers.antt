-- `whaupfield::pack` meets its contract: a value below 2^55 leaves room for the number below it.
use mathlib.Core.Path.{sym, ap, ap₂, ◌∙◌}
use Prim.Native.Nat.{ℕ, ◌+◌, ◌*◌, ◌^◌, ◌<◌}
use native.Mathlib.Nat.{zero-add}
use native.Mathlib.Omega.{arith}
use Rattle.document.specs.Refusals.{answer_number, answer_value, index_of}
use Rattle.whaupfield.specs.Packed.{packed}
use Rattle.whaupfield.proofs.pack.Goals as goal

pub overflow_mul-result : goal.overflow_mul-result
unfolding answer_value
overflow_mul-result c =
    let value : c.in-Ok.v < 2 ^ 55 = rw c.in-Ok.is at c.requires in omega arith

pub overflow_mul-result-in-Err : goal.overflow_mul-result-in-Err
unfolding answer_value
overflow_mul-result-in-Err c =
    let value : index_of c.in-Err.r < 2 ^ 55 = rw c.in-Err.is at c.requires in omega (arith, c.index.ensures)

pub overflow_add-result : goal.overflow_add-result
unfolding answer_value
overflow_add-result c =
    let value : index_of c.in-Err.r < 2 ^ 55 = rw c.in-Err.is at c.requires in
    omega (arith, c.index.ensures, c.number.type_inv)

pub returns-in-Ok : goal.returns-in-Ok
unfolding packed answer_number answer_value
returns-in-Ok c = sym (ap packed c.in-Ok.is ∙ zero-add _)

pub returns-in-Err : goal.returns-in-Err
unfolding packed answer_number answer_value
returns-in-Err c =
    ap₂ (λ (n i : ℕ). n + 256 * i) c.number.ensures c.index.ensures
    ∙ sym (ap packed c.in-Err.is)
