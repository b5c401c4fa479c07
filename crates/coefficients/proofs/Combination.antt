-- What is made of strips by weights is a sum in the byte field.
use mathlib.Core.Path.{◌≡◌, sym, ap, ap₂, ◌∙◌}
use mathlib.Core.List.{List, [], ◌∷◌}
use Prim.Native.Nat.{ℕ, suc, ◌+◌, ◌*◌}
use native.Mathlib.Nat.{zero-mul, add-zero, suc-mul}
use native.Mathlib.Omega.{arith}
use lib.ListN.{length, get_or}
use Rattle.gf256.specs.Field.{◌⊕◌, ◌⊗◌}
use Rattle.gf256.proofs.Ring.{mul_comm}
use Rattle.algebra.specs.Sum.{sum}
use Rattle.algebra.proofs.Sum.{sum_ext, sum_front}
use Rattle.strips.specs.Strips.{sum_of}
use Rattle.document.specs.ByteField.{bytes, Byte, byte, number}
use Rattle.document.proofs.ByteField.{number_zero, number_add, number_mul, byte_left, byte_right}

-- a weighted byte
abbrev term : List ℕ → List ℕ → ℕ → ℕ → ℕ → Byte
term ws src offset stride q = bytes.mul (byte (get_or src (offset + q * stride) 0)) (byte (get_or ws q 0))

-- the sum that `combine` makes at a byte is a sum of bytes
pub sum_bytes : (ws src : List ℕ) (offset stride : ℕ)
    → sum_of ws src offset stride
    ≡ number (sum bytes (length ws) (λ q. bytes.mul (byte (get_or src (offset + q * stride) 0)) (byte (get_or ws q 0))))
unfolding sum_of sum
sum_bytes [] src offset stride = sym number_zero
sum_bytes (w ∷ ws) src offset stride =
    ap₂ ◌⊕◌ first (sum_bytes ws src (offset + stride) stride ∙ ap number (sum_ext bytes (length ws) (λ q l. rest q)))
    ∙ sym (number_add _ _) ∙ ap number (sym (sum_front bytes (length ws) (term (w ∷ ws) src offset stride)))
  where
    rest : (q : ℕ) → term ws src (offset + stride) stride q ≡ term (w ∷ ws) src offset stride (suc q)
    rest q =
        ap (λ (e : ℕ). bytes.mul (byte (get_or src e 0)) (byte (get_or ws q 0))) (omega (arith, suc-mul q stride))

    start : offset + 0 * stride ≡ offset
    start = ap (λ (e : ℕ). offset + e) (zero-mul stride) ∙ add-zero offset

    first : w ⊗ get_or src offset 0 ≡ number (term (w ∷ ws) src offset stride 0)
    first =
        mul_comm w (get_or src offset 0) ∙ sym (byte_right (get_or src offset 0) w)
        ∙ sym (byte_left (get_or src offset 0) (number (byte w)))
        ∙ ap (λ (e : ℕ). number (byte (get_or src e 0)) ⊗ number (byte w)) (sym start) ∙ sym (number_mul _ _)
