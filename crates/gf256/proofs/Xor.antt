-- The laws of the sum: exclusive or adds bits without carry, and a product with a bit keeps it.
use mathlib.Core.Path.{◌≡◌, refl, sym, ap, ap₂, ◌∙◌}
use Prim.Native.Nat.{ℕ, zero, suc, ◌+◌, ◌*◌, ◌/◌, ◌%◌, ◌^◌, ◌<◌}
use native.Mathlib.Nat as N
use native.Mathlib.Omega.{arith}
use lib.Arith.{bin_ind, digits_mod}
use lib.Bits.{differ, xor_step, xor_comm, xor_self, xor_zero_r, xor_lt, xor_shr, xor_mod, xor_shifted}
use lib.Pow.{split, pow_pos}
use Rattle.gf256.specs.Field.{◌⊕◌}

-- ---- bits
bit_lt : (a : ℕ) → a % 2 < 2
bit_lt a = omega arith

differ_lt : (x y : ℕ) → x < 2 → y < 2 → differ x y < 2
differ_lt zero y hx hy = hy
differ_lt (suc x) zero hx hy = hx
differ_lt (suc zero) (suc zero) hx hy = omega arith
differ_lt (suc zero) (suc (suc y)) hx hy = omega arith
differ_lt (suc (suc x)) (suc y) hx hy = omega arith

differ_assoc : (x y z : ℕ) → x < 2 → y < 2 → z < 2 → differ (differ x y) z ≡ differ x (differ y z)
differ_assoc zero y z hx hy hz = refl
differ_assoc (suc x) zero z hx hy hz = refl
differ_assoc (suc zero) (suc zero) zero hx hy hz = refl
differ_assoc (suc zero) (suc zero) (suc zero) hx hy hz = refl
differ_assoc (suc (suc x)) (suc y) z hx hy hz = omega arith
differ_assoc (suc zero) (suc (suc y)) z hx hy hz = omega arith
differ_assoc (suc zero) (suc zero) (suc (suc z)) hx hy hz = omega arith

pub step : (a b : ℕ) → a ⊕ b ≡ ((a / 2) ⊕ (b / 2)) * 2 + differ (a % 2) (b % 2)
unfolding ◌⊕◌
step = xor_step

pub shift : (k a b : ℕ) → (a ⊕ b) / 2 ^ k ≡ (a / 2 ^ k) ⊕ (b / 2 ^ k)
unfolding ◌⊕◌
shift k a b = xor_shr a b k

pub mask : (k a b : ℕ) → (a ⊕ b) % 2 ^ k ≡ (a % 2 ^ k) ⊕ (b % 2 ^ k)
unfolding ◌⊕◌
mask k a b = xor_mod a b k

bit : (a b : ℕ) → (a ⊕ b) % 2 ≡ differ (a % 2) (b % 2)
bit a b =
    ap (λ (x : ℕ). x % 2) (step a b)
    ∙ digits_mod ((a / 2) ⊕ (b / 2)) (differ_lt (a % 2) (b % 2) (bit_lt a) (bit_lt b))

-- the k low bits of a number, and the rest
pub parts : (k a : ℕ) → a ≡ (a / 2 ^ k * 2 ^ k) ⊕ (a % 2 ^ k)
unfolding ◌⊕◌
parts k a = sym (xor_shifted (a / 2 ^ k) k (a % 2 ^ k) (N.mod-lt a (pow_pos k)) ∙ split a k)

-- ---- the laws
pub zero-add : (a : ℕ) → 0 ⊕ a ≡ a
unfolding ◌⊕◌
zero-add a = refl

pub add-zero : (a : ℕ) → a ⊕ 0 ≡ a
unfolding ◌⊕◌
add-zero = xor_zero_r

pub add_self : (a : ℕ) → a ⊕ a ≡ 0
unfolding ◌⊕◌
add_self = xor_self

pub add_comm : (a b : ℕ) → a ⊕ b ≡ b ⊕ a
unfolding ◌⊕◌
add_comm = xor_comm

pub add_assoc : (a b c : ℕ) → (a ⊕ b) ⊕ c ≡ a ⊕ (b ⊕ c)
add_assoc =
    bin_ind (λ (n : ℕ). (b c : ℕ) → (n ⊕ b) ⊕ c ≡ n ⊕ (b ⊕ c)) (λ b c. simp zero-add)
    (λ n ih b c. step (n ⊕ b) c
    ∙ ap₂ (λ (x y : ℕ). x * 2 + y)
    (ap (λ (x : ℕ). x ⊕ (c / 2)) (shift 1 n b) ∙ ih (b / 2) (c / 2)
    ∙ ap (λ (x : ℕ). (n / 2) ⊕ x) (sym (shift 1 b c)))
    (ap (λ (x : ℕ). differ x (c % 2)) (bit n b)
    ∙ differ_assoc (n % 2) (b % 2) (c % 2) (bit_lt n) (bit_lt b) (bit_lt c)
    ∙ ap (differ (n % 2)) (sym (bit b c)))
    ∙ sym (step n (b ⊕ c)))

pub add_left_comm : (a b c : ℕ) → a ⊕ (b ⊕ c) ≡ b ⊕ (a ⊕ c)
add_left_comm a b c = sym (add_assoc a b c) ∙ ap (λ (x : ℕ). x ⊕ c) (add_comm a b) ∙ add_assoc b a c

pub add_self_left : (a b : ℕ) → a ⊕ (a ⊕ b) ≡ b
add_self_left a b = sym (add_assoc a a b) ∙ ap (λ (x : ℕ). x ⊕ b) (add_self a) ∙ zero-add b

pub add_medial : (a b c d : ℕ) → (a ⊕ b) ⊕ (c ⊕ d) ≡ (a ⊕ c) ⊕ (b ⊕ d)
add_medial a b c d = simp (add_assoc, add_left_comm b c d)

pub add_lt : {a b : ℕ} → a < 256 → b < 256 → a ⊕ b < 256
unfolding ◌⊕◌
add_lt {a} {b} = xor_lt 8 a b

-- ---- products with a bit
times_bit : (a b x : ℕ) → x < 2 → (a ⊕ b) * x ≡ (a * x) ⊕ (b * x)
times_bit a b zero h = simp (N.mul-zero, zero-add)
times_bit a b (suc zero) h = simp N.mul-one
times_bit a b (suc (suc x)) h = omega arith

bit_times : (a x y : ℕ) → x < 2 → y < 2 → a * differ x y ≡ (a * x) ⊕ (a * y)
bit_times a zero y hx hy = simp (N.mul-zero, zero-add)
bit_times a (suc x) zero hx hy = simp (N.mul-zero, add-zero)
bit_times a (suc zero) (suc zero) hx hy = simp (N.mul-zero, add_self)
bit_times a (suc zero) (suc (suc y)) hx hy = omega arith
bit_times a (suc (suc x)) (suc y) hx hy = omega arith

pub sum_times_bit : (a b c : ℕ) → (a ⊕ b) * (c % 2) ≡ (a * (c % 2)) ⊕ (b * (c % 2))
sum_times_bit a b c = times_bit a b (c % 2) (bit_lt c)

pub times_bit_of_sum : (a b c : ℕ) → a * ((b ⊕ c) % 2) ≡ (a * (b % 2)) ⊕ (a * (c % 2))
times_bit_of_sum a b c =
    ap (λ (x : ℕ). a * x) (bit b c) ∙ bit_times a (b % 2) (c % 2) (bit_lt b) (bit_lt c)

pub times_bit_lt : (a b : ℕ) {c : ℕ} → a < c → a * (b % 2) < c
times_bit_lt a b {c} h = by_bit (b % 2) (bit_lt b)
  where
    by_bit : (d : ℕ) → d < 2 → a * d < c
    by_bit zero k = rw N.mul-zero (omega arith)
    by_bit (suc zero) k = rw N.mul-one h
    by_bit (suc (suc d)) k = omega arith
