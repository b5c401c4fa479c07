-- Bytes and their numbers.
use mathlib.Core.Path.{◌≡◌, refl, sym, ap, ap₂, ◌∙◌}
use mathlib.Core.Logic.{◌≢◌}
use Prim.Native.Nat.{ℕ, ◌≤◌, ◌<◌}
use native.Mathlib.Nat.{mod-eq_of_lt}
use native.Mathlib.Fin
use native.Mathlib.Omega.{arith}
use Rattle.gf256.specs.Field.{◌⊕◌, ◌⊗◌, inverse}
use Rattle.gf256.proofs.Ring.{low_left, low_right}
use Rattle.algebra.specs.Polynomial.{DistinctPoints}
use Rattle.document.specs.ByteField.{bytes, Byte, byte, number}

pub number_lt : (a : Byte) → number a < 256
unfolding bytes number
number_lt a = a.1

pub number_byte : (a : ℕ) → a < 256 → number (byte a) ≡ a
unfolding bytes number byte
number_byte a h = mod-eq_of_lt h

pub byte_number : (a : Byte) → byte (number a) ≡ a
unfolding bytes number byte
byte_number a = Fin.val_path (mod-eq_of_lt a.1)

-- a factor is seen by its number mod 256
pub byte_left : (a b : ℕ) → number (byte a) ⊗ b ≡ a ⊗ b
unfolding bytes number byte
byte_left = low_left

pub byte_right : (a b : ℕ) → a ⊗ number (byte b) ≡ a ⊗ b
unfolding bytes number byte
byte_right = low_right

-- sums, products and inverses of bytes are those of their numbers
pub number_zero : number bytes.𝟘 ≡ 0
unfolding bytes number
number_zero = refl

pub number_one : number bytes.𝟙 ≡ 1
unfolding bytes number
number_one = refl

pub number_add : (a b : Byte) → number (bytes.add a b) ≡ number a ⊕ number b
unfolding bytes number
number_add a b = refl

pub number_mul : (a b : Byte) → number (bytes.mul a b) ≡ number a ⊗ number b
unfolding bytes number
number_mul a b = refl

pub number_inv : (a : Byte) → number (bytes.inv a) ≡ inverse (number a)
unfolding bytes number
number_inv a = refl

-- so the byte of a sum, product or inverse is that of the bytes
pub byte_zero : byte 0 ≡ bytes.𝟘
byte_zero = ap byte (sym number_zero) ∙ byte_number bytes.𝟘

pub byte_one : byte 1 ≡ bytes.𝟙
byte_one = ap byte (sym number_one) ∙ byte_number bytes.𝟙

pub byte_add : (a b : ℕ) → a < 256 → b < 256 → byte (a ⊕ b) ≡ bytes.add (byte a) (byte b)
byte_add a b h k =
    ap byte (sym (number_add (byte a) (byte b) ∙ ap₂ ◌⊕◌ (number_byte a h) (number_byte b k)))
    ∙ byte_number (bytes.add (byte a) (byte b))

pub byte_mul : (a b : ℕ) → byte (a ⊗ b) ≡ bytes.mul (byte a) (byte b)
byte_mul a b =
    ap byte (sym (number_mul (byte a) (byte b) ∙ byte_left a (number (byte b)) ∙ byte_right a b))
    ∙ byte_number (bytes.mul (byte a) (byte b))

pub byte_inv : (a : ℕ) → a < 256 → byte (inverse a) ≡ bytes.inv (byte a)
byte_inv a h =
    ap byte (sym (number_inv (byte a) ∙ ap inverse (number_byte a h))) ∙ byte_number (bytes.inv (byte a))

-- equal bytes of numbers below 256 have equal numbers
pub byte_one_one : (a b : ℕ) → a < 256 → b < 256 → byte a ≡ byte b → a ≡ b
byte_one_one a b h k e = sym (number_byte a h) ∙ ap number e ∙ number_byte b k

pub byte_ne : (a : ℕ) → a < 256 → a ≢ 0 → byte a ≢ bytes.𝟘
byte_ne a h n e = n (byte_one_one a 0 h (omega arith) (e ∙ sym byte_zero))

-- a byte other than 0 has a number above 0
pub number_above : (a : Byte) → a ≢ bytes.𝟘 → 0 < number a
number_above a n =
    let ne : number a ≢ 0 = λ e. n (sym (byte_number a) ∙ ap byte e ∙ byte_zero) in
    omega arith

-- different numbers below 256 are different bytes
pub points_distinct : (n : ℕ) → n ≤ 256 → DistinctPoints bytes n byte
points_distinct n h i j l b e = omega (arith, byte_one_one i j (omega arith) (omega arith) e)
