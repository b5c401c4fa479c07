-- The laws of the product. It keeps sums in each factor, so a law whose sides keep sums in each of its variables is a
-- test at 2^0 to 2^7, which antt computes.
use mathlib.Core.Path.{◌≡◌, sym, ap, ap₂, ◌∙◌}
use mathlib.Core.Bool.{Bool}
use Prim.Native.Nat.{ℕ, zero, suc, ◌+◌, ◌*◌, ◌/◌, ◌%◌, ◌^◌, ◌<◌}
use native.Mathlib.Nat as N
use native.Mathlib.Omega.{arith}
use lib.Arith.{lt-one}
use lib.Bits.{differ}
use lib.Dec.{T, eqb, eqb→eq, lit<}
use lib.Pow.{pow_pos}
use Rattle.gf256.specs.Field.{◌⊕◌, ◌⊗◌, double, reduced, bit_product}
use Rattle.gf256.proofs.Test.{every, at}
use Rattle.gf256.proofs.Xor as X

-- ---- functions that keep sums and see the low eight bits alone
record Linear (f : ℕ → ℕ) : Type 0 where
  pub sum : (a b : ℕ) → f (a ⊕ b) ≡ f a ⊕ f b
  pub low : (a : ℕ) → f (a % 256) ≡ f a

linear_zero : {f : ℕ → ℕ} → Linear f → f 0 ≡ 0
linear_zero {f} l =
    sym (X.add_self_left (f 0) (f 0)) ∙ ap (λ (x : ℕ). f 0 ⊕ x) (sym (l.sum 0 0) ∙ ap f (X.add_self 0))
    ∙ X.add_self (f 0)

compose : (f g : ℕ → ℕ) → Linear f → Linear g → Linear (λ a. f (g a))
compose f g l m = record { sum = λ a b. ap f (m.sum a b) ∙ l.sum (g a) (g b); low = λ a. ap f (m.low a) }

module _ (f g : ℕ → ℕ) (l : Linear f) (m : Linear g) where
  one_bit : (k d : ℕ) → d < 2 → f (2 ^ k) ≡ g (2 ^ k) → f (d * 2 ^ k) ≡ g (d * 2 ^ k)
  one_bit k zero h e = rw N.zero-mul (linear_zero l ∙ sym (linear_zero m))
  one_bit k (suc zero) h e = rw N.one-mul e
  one_bit k (suc (suc d)) h e = omega arith

  on_bits : (k : ℕ) → ((i : ℕ) → i < k → f (2 ^ i) ≡ g (2 ^ i)) → (a : ℕ) → a < 2 ^ k → f a ≡ g a
  on_bits zero e a h = ap f (lt-one h) ∙ linear_zero l ∙ sym (linear_zero m) ∙ ap g (sym (lt-one h))
  on_bits (suc k) e a h =
      ap f (X.parts k a) ∙ l.sum (a / 2 ^ k * 2 ^ k) (a % 2 ^ k)
      ∙ ap₂ ◌⊕◌
      (one_bit k (a / 2 ^ k)
      ((N.div-lt_iff_lt-mul (pow_pos k)).1 (rw (N.pow-suc, N.mul_comm) at h)) (e k (N.le_refl (suc k))))
      (on_bits k (λ i hi. e i (omega arith)) (a % 2 ^ k) (N.mod-lt a (pow_pos k)))
      ∙ sym (ap g (X.parts k a) ∙ m.sum (a / 2 ^ k * 2 ^ k) (a % 2 ^ k))

  -- two such functions agree if they agree at eight numbers
  agree : ((i : ℕ) → i < 8 → f (2 ^ i) ≡ g (2 ^ i)) → (a : ℕ) → f a ≡ g a
  agree e a = sym (l.low a) ∙ on_bits 8 e (a % 256) (N.mod-lt a (lit< tt)) ∙ m.low a

  agree_test : T (every (λ i. eqb (f (2 ^ i)) (g (2 ^ i))) 8) → (a : ℕ) → f a ≡ g a
  agree_test t = agree (λ i h. eqb→eq (f (2 ^ i)) (g (2 ^ i)) (at (λ k. eqb (f (2 ^ k)) (g (2 ^ k))) 8 t i h))

-- ---- the product keeps sums in each factor
shifted_sum : (a b : ℕ) → (a ⊕ b) * 2 ≡ (a * 2) ⊕ (b * 2)
shifted_sum a b =
    sym (X.step (a * 2) (b * 2)
    ∙ ap₂ (λ (x y : ℕ). x * 2 + y)
    (ap₂ ◌⊕◌ (N.mul-div_cancel a (N.zero-lt-suc 1)) (N.mul-div_cancel b (N.zero-lt-suc 1)))
    (ap₂ differ (N.mul-mod_left a 2) (N.mul-mod_left b 2))
    ∙ N.add-zero ((a ⊕ b) * 2))

pub double_add : (a b : ℕ) → double (a ⊕ b) ≡ double a ⊕ double b
unfolding double
double_add a b =
    ap₂ ◌⊕◌
    (ap (λ (x : ℕ). x % 256) (shifted_sum a b) ∙ X.mask 8 (a * 2) (b * 2))
    (ap (λ (x : ℕ). reduced * (x % 2)) (X.shift 7 a b) ∙ X.times_bit_of_sum reduced (a / 128) (b / 128))
    ∙ X.add_medial (a * 2 % 256) (b * 2 % 256) (reduced * (a / 128 % 2)) (reduced * (b / 128 % 2))

bits_sum_left : (n a b c : ℕ) → bit_product n (a ⊕ b) c ≡ bit_product n a c ⊕ bit_product n b c
unfolding bit_product
bits_sum_left zero a b c = sym (X.add_self 0)
bits_sum_left (suc n) a b c =
    ap₂ ◌⊕◌ (X.sum_times_bit a b c)
    (ap (λ (x : ℕ). bit_product n x (c / 2)) (double_add a b) ∙ bits_sum_left n (double a) (double b) (c / 2))
    ∙ X.add_medial (a * (c % 2)) (b * (c % 2)) (bit_product n (double a) (c / 2)) (bit_product n (double b) (c / 2))

bits_sum_right : (n a b c : ℕ) → bit_product n a (b ⊕ c) ≡ bit_product n a b ⊕ bit_product n a c
unfolding bit_product
bits_sum_right zero a b c = sym (X.add_self 0)
bits_sum_right (suc n) a b c =
    ap₂ ◌⊕◌ (X.times_bit_of_sum a b c)
    (ap (bit_product n (double a)) (X.shift 1 b c) ∙ bits_sum_right n (double a) (b / 2) (c / 2))
    ∙ X.add_medial (a * (b % 2)) (a * (c % 2)) (bit_product n (double a) (b / 2)) (bit_product n (double a) (c / 2))

left : (b : ℕ) → Linear (λ a. a ⊗ b)
unfolding ◌⊗◌
left b = record {
  sum = λ a c. ap (λ (x : ℕ). bit_product 8 x (b % 256)) (X.mask 8 a c)
      ∙ bits_sum_left 8 (a % 256) (c % 256) (b % 256);
  low = λ a. ap (λ (x : ℕ). bit_product 8 x (b % 256)) (N.mod-mod a 256);
}

right : (a : ℕ) → Linear (λ b. a ⊗ b)
unfolding ◌⊗◌
right a = record {
  sum = λ b c. ap (bit_product 8 (a % 256)) (X.mask 8 b c)
      ∙ bits_sum_right 8 (a % 256) (b % 256) (c % 256);
  low = λ b. ap (bit_product 8 (a % 256)) (N.mod-mod b 256);
}

-- ---- the laws
pub add-mul : (a b c : ℕ) → (a ⊕ b) ⊗ c ≡ (a ⊗ c) ⊕ (b ⊗ c)
add-mul a b c = (left c).sum a b

pub mul-add : (a b c : ℕ) → a ⊗ (b ⊕ c) ≡ (a ⊗ b) ⊕ (a ⊗ c)
mul-add a = (right a).sum

-- a factor is seen by its low eight bits
pub low_left : (a b : ℕ) → (a % 256) ⊗ b ≡ a ⊗ b
low_left a b = (left b).low a

pub low_right : (a b : ℕ) → a ⊗ (b % 256) ≡ a ⊗ b
low_right a = (right a).low

pub zero-mul : (a : ℕ) → 0 ⊗ a ≡ 0
zero-mul a = linear_zero (left a)

pub mul-zero : (a : ℕ) → a ⊗ 0 ≡ 0
mul-zero a = linear_zero (right a)

comm_test : ℕ → ℕ → Bool
comm_test i j = eqb (2 ^ i ⊗ 2 ^ j) (2 ^ j ⊗ 2 ^ i)

comm_tests : T (every (λ i. every (comm_test i) 8) 8)
unfolding comm_test ◌⊗◌ bit_product double ◌⊕◌
comm_tests = tt

pub mul_comm : (a b : ℕ) → a ⊗ b ≡ b ⊗ a
unfolding comm_test
mul_comm a b =
    agree (λ x. x ⊗ b) (λ x. b ⊗ x) (left b) (right b)
    (λ i hi. agree_test (λ y. 2 ^ i ⊗ y) (λ y. y ⊗ 2 ^ i) (right (2 ^ i)) (left (2 ^ i))
    (at (λ i. every (comm_test i) 8) 8 comm_tests i hi) b)
    a

assoc_test : ℕ → ℕ → ℕ → Bool
assoc_test i j k = eqb ((2 ^ i ⊗ 2 ^ j) ⊗ 2 ^ k) (2 ^ i ⊗ (2 ^ j ⊗ 2 ^ k))

assoc_tests : T (every (λ i. every (λ j. every (assoc_test i j) 8) 8) 8)
unfolding assoc_test ◌⊗◌ bit_product double ◌⊕◌
assoc_tests = tt

pub mul_assoc : (a b c : ℕ) → (a ⊗ b) ⊗ c ≡ a ⊗ (b ⊗ c)
unfolding assoc_test
mul_assoc a b c =
    agree (λ x. (x ⊗ b) ⊗ c) (λ x. x ⊗ (b ⊗ c)) (compose (λ x. x ⊗ c) (λ x. x ⊗ b) (left c) (left b)) (left (b ⊗ c))
    (λ i hi. agree (λ y. (2 ^ i ⊗ y) ⊗ c) (λ y. 2 ^ i ⊗ (y ⊗ c))
    (compose (λ x. x ⊗ c) (λ y. 2 ^ i ⊗ y) (left c) (right (2 ^ i)))
    (compose (λ x. 2 ^ i ⊗ x) (λ y. y ⊗ c) (right (2 ^ i)) (left c))
    (λ j hj. agree_test (λ z. (2 ^ i ⊗ 2 ^ j) ⊗ z) (λ z. 2 ^ i ⊗ (2 ^ j ⊗ z))
    (right (2 ^ i ⊗ 2 ^ j)) (compose (λ x. 2 ^ i ⊗ x) (λ z. 2 ^ j ⊗ z) (right (2 ^ i)) (right (2 ^ j)))
    (at (λ j. every (assoc_test i j) 8) 8 (at (λ i. every (λ j. every (assoc_test i j) 8) 8) 8 assoc_tests i hi) j hj)
    c)
    b)
    a

pub mul_left_comm : (a b c : ℕ) → a ⊗ (b ⊗ c) ≡ b ⊗ (a ⊗ c)
mul_left_comm a b c = sym (mul_assoc a b c) ∙ ap (λ (x : ℕ). x ⊗ c) (mul_comm a b) ∙ mul_assoc b a c

pub one-mul : (a : ℕ) → a < 256 → 1 ⊗ a ≡ a
unfolding ◌⊗◌ bit_product double ◌⊕◌
one-mul a h =
    agree_test (λ a. 1 ⊗ a) (λ a. a % 256) (right 1) (record { sum = X.mask 8; low = λ a. N.mod-mod a 256 }) tt a
    ∙ N.mod-eq_of_lt h

pub mul-one : (a : ℕ) → a < 256 → a ⊗ 1 ≡ a
mul-one a h = mul_comm a 1 ∙ one-mul a h

double_low : (a : ℕ) → double (a % 256) ≡ double a
unfolding double
double_low a = ap₂ ◌⊕◌ (omega arith) (omega arith)

pub double_two : (a : ℕ) → double a ≡ 2 ⊗ a
unfolding ◌⊗◌ bit_product double ◌⊕◌
double_two = agree_test double (λ a. 2 ⊗ a) (record { sum = double_add; low = double_low }) (right 2) tt

-- ---- bounds
pub double_lt : (a : ℕ) → double a < 256
unfolding double
double_lt a = X.add_lt (N.mod-lt (a * 2) (lit< tt)) (omega arith)

bits_lt : (n a b : ℕ) → a < 256 → bit_product n a b < 256
unfolding bit_product
bits_lt zero a b h = lit< tt
bits_lt (suc n) a b h = X.add_lt (X.times_bit_lt a b h) (bits_lt n (double a) (b / 2) (double_lt a))

pub mul_lt : (a b : ℕ) → a ⊗ b < 256
unfolding ◌⊗◌
mul_lt a b = bits_lt 8 (a % 256) (b % 256) (N.mod-lt a (lit< tt))
