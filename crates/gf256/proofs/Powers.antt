-- Powers of 2: products and inverses by logarithms.
use mathlib.Core.Path.{◌≡◌, refl, sym, ap, ap₂, ◌∙◌}
use mathlib.Core.Bool.{Bool, true, false, cond}
use Prim.Native.Nat.{ℕ, zero, suc, ◌+◌, ◌-◌, ◌*◌, ◌<◌, ◌≤◌}
use native.Mathlib.Nat.{mul-suc, zero-mul, mul-add, add-mul, mul_assoc, suc-add, zero-add}
use native.Mathlib.Omega.{arith}
use lib.Dec.{ltb, lit<}
use borrow.Author.Tests.{ltb-true, ltb-false}
use Rattle.gf256.specs.Field.{◌⊕◌, ◌⊗◌, double, power, log, squares, inverse}
use Rattle.gf256.specs.Laws.{less_cycle}
use Rattle.gf256.proofs.Product as P
use Rattle.gf256.proofs.Tables.{log_lt}
pub use Rattle.gf256.proofs.Tables.{power_log}

pub power_lt : (n : ℕ) → power n < 256
unfolding power
power_lt zero = lit< tt
power_lt (suc n) = P.double_lt (power n)

pub power_add : (m n : ℕ) → power (m + n) ≡ power m ⊗ power n
unfolding power
power_add zero n = ap power (zero-add n) ∙ sym (P.one-mul (power n) (power_lt n))
power_add (suc m) n =
    ap power (suc-add m n) ∙ ap double (power_add m n) ∙ P.double_two (power m ⊗ power n)
    ∙ sym (P.mul_assoc 2 (power m) (power n)) ∙ ap (λ (x : ℕ). x ⊗ power n) (sym (P.double_two (power m)))

power_cycle : power 255 ≡ 1
unfolding power double ◌⊕◌
power_cycle = refl

power_multiple : (k : ℕ) → power (255 * k) ≡ 1
unfolding power
power_multiple zero = refl
power_multiple (suc k) =
    ap power (mul-suc 255 k) ∙ power_add (255 * k) 255 ∙ ap₂ ◌⊗◌ (power_multiple k) power_cycle ∙ P.one-mul 1 (lit< tt)

-- the powers of 2 repeat after 255
power_repeat : (m n : ℕ) → m + 255 ≡ n → power m ≡ power n
power_repeat m n e =
    sym (P.mul-one (power m) (power_lt m)) ∙ ap (λ (x : ℕ). power m ⊗ x) (sym power_cycle) ∙ sym (power_add m 255)
    ∙ ap power e

-- what holds of k where n is above m, and of n where it is not
by_test : (P : ℕ → Type 0) (m n k : ℕ) → (m < n → P k) → (n ≤ m → P n) → P (cond (ltb m n) k n)
by_test P m n k above below = go (ltb m n) (λ e. above (ltb-true m n e)) (λ e. below (ltb-false m n e))
  where
    go : (t : Bool) → (t ≡ true → P k) → (t ≡ false → P n) → P (cond t k n)
    go true y z = y refl
    go false y z = z refl

power_less : (n : ℕ) → power (less_cycle n) ≡ power n
unfolding less_cycle
power_less n = by_test (λ k. power k ≡ power n) _ n _ (λ h. power_repeat _ n (omega arith)) (λ h. refl)

pub less_small : {m n : ℕ} → m < 255 → n < 255 → less_cycle (m + n) ≤ 254
unfolding less_cycle
less_small {m} {n} h l = by_test (λ k. k ≤ 254) _ (m + n) _ (λ g. omega arith) (λ g. omega arith)

-- 2 + 4 + 8 + .., n terms
exponent : ℕ → ℕ
exponent zero = 0
exponent (suc n) = 2 + 2 * exponent n

squares_power : (n k : ℕ) → squares n (power k) ≡ power (exponent n * k)
unfolding squares power exponent
squares_power zero k = ap power (sym (zero-mul k))
squares_power (suc n) k =
    ap (λ (x : ℕ). x ⊗ squares n x) (sym (power_add k k))
    ∙ ap (λ (x : ℕ). power (k + k) ⊗ x) (squares_power n (k + k)) ∙ sym (power_add (k + k) (exponent n * (k + k)))
    ∙ ap power (twice (exponent n))
  where
    twice : (e : ℕ) → k + k + e * (k + k) ≡ (2 + 2 * e) * k
    twice e = omega (arith, mul-add e k k, add-mul 2 (2 * e) k, mul_assoc 2 e k)

pub inverse_lt : (a : ℕ) → inverse a < 256
unfolding inverse squares
inverse_lt a = P.mul_lt (a ⊗ a) (squares 6 (a ⊗ a))

module _ {a : ℕ} (p : 0 < a) (h : a < 256) where
  pub mul_inverse : a ⊗ inverse a ≡ 1
  unfolding inverse exponent
  mul_inverse =
      ap (λ (x : ℕ). x ⊗ squares 7 x) (sym (power_log a p h))
      ∙ ap (λ (x : ℕ). power (log a) ⊗ x) (squares_power 7 (log a)) ∙ sym (power_add (log a) (254 * log a))
      ∙ ap power (omega arith) ∙ power_multiple (log a)

  -- the one byte whose product with a is 1
  pub inverse_unique : {b : ℕ} → b < 256 → a ⊗ b ≡ 1 → inverse a ≡ b
  inverse_unique {b} k e =
      sym (P.mul-one (inverse a) (inverse_lt a)) ∙ ap (λ (x : ℕ). inverse a ⊗ x) (sym e)
      ∙ P.mul_left_comm (inverse a) a b ∙ ap (λ (x : ℕ). a ⊗ x) (P.mul_comm (inverse a) b)
      ∙ P.mul_left_comm a b (inverse a) ∙ ap (λ (x : ℕ). b ⊗ x) mul_inverse ∙ P.mul-one b k

  pub inverse_power : inverse a ≡ power (255 - log a)
  inverse_power =
      inverse_unique (power_lt (255 - log a))
      (ap (λ (x : ℕ). x ⊗ power (255 - log a)) (sym (power_log a p h)) ∙ sym (power_add (log a) (255 - log a))
      ∙ ap power (omega (arith, log_lt a h)) ∙ power_cycle)

-- the product by the logarithms
pub mul_power : {a b : ℕ} → 0 < a → a < 256 → 0 < b → b < 256 → a ⊗ b ≡ power (less_cycle (log a + log b))
mul_power {a} {b} p h q k =
    sym (power_less (log a + log b) ∙ power_add (log a) (log b) ∙ ap₂ ◌⊗◌ (power_log a p h) (power_log b q k))
