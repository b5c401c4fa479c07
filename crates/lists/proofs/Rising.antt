-- The laws of `rising`: equality test by test, and how many entries there are.
use mathlib.Core.Path.{◌≡◌, refl, sym, ap, ap₂, ◌∙◌}
use mathlib.Core.Bool.{Bool, true, false, ◌&&◌, not, cond}
use mathlib.Core.List.{List, [], ◌∷◌, ◌++◌}
use Prim.Native.Nat.{ℕ, zero, suc, ◌+◌, ◌-◌, ◌*◌, ◌/◌, ◌%◌, ◌≤◌, ◌<◌}
use native.Mathlib.Nat.{add-zero, add-suc, zero-mul, suc-mul, add-mul, one-mul, not-suc-le-zero}
use native.Mathlib.Decide.{dec_lt, ℕ_discrete}
use native.Mathlib.Numerals.{add-one}
use native.Mathlib.Omega.{arith}
use lib.Arith.{digits_div, digits_mod}
use lib.Dec.{eqb}
use lib.ListN.{length, take, length-append, length-take}
use lib.Seq.{take_all, take-append-le}
use borrow.Author.Tests.{eq-eqb, ne_eqb}
use Rattle.lists.specs.Listed.{rising}

pub rising_next : (j : ℕ) (P : ℕ → Bool) → rising j P ++ cond (P j) (j ∷ []) [] ≡ rising (j + 1) P
unfolding rising
rising_next j P = rw add-one

pub rising_ext : (n : ℕ) (P Q : ℕ → Bool) → ((e : ℕ) → e < n → P e ≡ Q e) → rising n P ≡ rising n Q
unfolding rising
rising_ext zero P Q h = refl
rising_ext (suc n) P Q h =
    ap₂ (λ (l : List ℕ) (b : Bool). l ++ cond b (n ∷ []) []) (rising_ext n P Q (λ e l. h e (omega arith)))
    (h n (omega arith))

-- the numbers below j that pass come first among those below n
front_all : (j n : ℕ) (P : ℕ → Bool) → n ≡ j → take (length (rising j P)) (rising n P) ≡ rising j P
front_all j n P e =
    ap (λ (m : ℕ). take (length (rising j P)) (rising m P)) e
    ∙ take_all (length (rising j P)) (rising j P) (omega arith)

front_next : (j n : ℕ) (P : ℕ → Bool) → j ≤ suc n
    → (j ≤ n → take (length (rising j P)) (rising n P) ≡ rising j P) → Dec (j < suc n)
    → take (length (rising j P)) (rising (suc n) P) ≡ rising j P
unfolding rising
front_next j n P h earlier (yes l) =
    let e : take (length (rising j P)) (rising n P) ≡ rising j P = earlier (omega arith) in
    take-append-le (length (rising j P)) (rising n P) _
    (omega (arith, ap length e, length-take (length (rising j P)) (rising n P)))
    ∙ e
front_next j n P h earlier (no l) = front_all j (suc n) P (omega arith)

pub rising_front : (j n : ℕ) (P : ℕ → Bool) → j ≤ n → take (length (rising j P)) (rising n P) ≡ rising j P
rising_front j zero P h = front_all j 0 P (omega arith)
rising_front j (suc n) P h = front_next j n P h (rising_front j n P) (dec_lt j (suc n))

-- how many numbers below n pass
abbrev count : ℕ → (ℕ → Bool) → ℕ
count n P = length (rising n P)

pub count_next : (n : ℕ) (P : ℕ → Bool) → count (suc n) P ≡ count n P + cond (P n) 1 0
unfolding rising
count_next n P = length-append (rising n P) (cond (P n) (n ∷ []) []) ∙ ap (λ (c : ℕ). count n P + c) (one (P n))
  where
    one : (b : Bool) → length (cond b (n ∷ []) []) ≡ cond b 1 0
    one true = refl
    one false = refl

count_none : (n : ℕ) (P : ℕ → Bool) → ((e : ℕ) → e < n → P e ≡ false) → count n P ≡ 0
unfolding rising
count_none zero P h = refl
count_none (suc n) P h =
    count_next n P
    ∙ ap₂ (λ (c : ℕ) (b : Bool). c + cond b 1 0) (count_none n P (λ e l. h e (omega arith))) (h n (omega arith))

-- each number passes or fails
count_not : (n : ℕ) (P : ℕ → Bool) → count n P + count n (λ e. not (P e)) ≡ n
unfolding rising
count_not zero P = refl
count_not (suc n) P =
    let passed : count (suc n) P ≡ count n P + cond (P n) 1 0 = count_next n P in
    let failed : count (suc n) (λ e. not (P e)) ≡ count n (λ e. not (P e)) + cond (not (P n)) 1 0 =
    count_next n (λ e. not (P e)) in
    omega (arith, passed, failed, count_not n P, one (P n))
  where
    one : (b : Bool) → cond b 1 0 + cond (not b) 1 0 ≡ 1
    one true = refl
    one false = refl

pub count_one : (n c : ℕ) → c < n → length (rising n (λ e. eqb e c)) ≡ 1
count_one zero c h = absurd (not-suc-le-zero h)
count_one (suc n) c h = count_next n (λ e. eqb e c) ∙ go (ℕ_discrete n c) (count_one n c)
  where
    go : Dec (n ≡ c) → (c < n → count n (λ e. eqb e c) ≡ 1) → count n (λ e. eqb e c) + cond (eqb n c) 1 0 ≡ 1
    go (yes i) below =
        ap₂ (λ (m : ℕ) (b : Bool). m + cond b 1 0)
        (count_none n (λ e. eqb e c) (λ e l. ne_eqb e c (λ q. omega arith))) (eq-eqb n c i)
    go (no i) below = ap₂ (λ (m : ℕ) (b : Bool). m + cond b 1 0) (below (omega arith)) (ne_eqb n c i)

pub count_others : (n c : ℕ) → c < n → length (rising n (λ e. not (eqb e c))) ≡ n - 1
count_others n c h = omega (arith, count_not n (λ e. eqb e c), count_one n c h)

-- the numbers below m, and those from m on
count_add : (m n : ℕ) (P : ℕ → Bool) → count (m + n) P ≡ count m P + count n (λ e. P (m + e))
unfolding rising
count_add m zero P = ap (λ (c : ℕ). count c P) (add-zero m) ∙ sym (add-zero (count m P))
count_add m (suc n) P =
    let next : ℕ = cond (P (m + n)) 1 0 in
    let here : count (suc (m + n)) P ≡ count (m + n) P + next = count_next (m + n) P in
    let there : count (suc n) (λ e. P (m + e)) ≡ count n (λ e. P (m + e)) + next = count_next n (λ e. P (m + e)) in
    ap (λ (c : ℕ). count c P) (add-suc m n) ∙ omega (arith, here, there, count_add m n P)

count_and : (n : ℕ) (b : Bool) (R : ℕ → Bool) → count n (λ e. b && R e) ≡ cond b 1 0 * count n R
count_and n true R = sym (one-mul (count n R))
count_and n false R = count_none n (λ e. false) (λ e l. refl) ∙ sym (zero-mul (count n R))

-- of g groups of A numbers, a test of the group and a test of the place in it: the two counts multiply
pub count_digits : (g A : ℕ) (Q R : ℕ → Bool)
    → length (rising (g * A) (λ e. Q (e / A) && R (e % A))) ≡ length (rising g Q) * length (rising A R)
unfolding rising
count_digits zero A Q R =
    ap (λ (c : ℕ). count c (λ e. Q (e / A) && R (e % A))) (zero-mul A) ∙ sym (zero-mul (count A R))
count_digits (suc g) A Q R =
    ap (λ (c : ℕ). count c P) (suc-mul g A)
    ∙ count_add (g * A) A P
    ∙ ap₂ (λ (u v : ℕ). u + v) (count_digits g A Q R) (last ∙ count_and A (Q g) R)
    ∙ sym (add-mul (count g Q) (cond (Q g) 1 0) (count A R))
    ∙ ap (λ (c : ℕ). c * count A R) (sym (count_next g Q))
  where
    P : ℕ → Bool
    P e = Q (e / A) && R (e % A)

    last : count A (λ e. P (g * A + e)) ≡ count A (λ e. Q g && R e)
    last =
        ap length
        (rising_ext A (λ e. P (g * A + e)) (λ e. Q g && R e)
        (λ e l. ap₂ (λ (h r : ℕ). Q h && R r) (digits_div g l) (digits_mod g l)))

pub rising_length : (P : ℕ → Bool) (n : ℕ) → length (rising n P) ≤ n
rising_length P n = omega (arith, count_not n P)
