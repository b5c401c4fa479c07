-- The laws of a field of characteristic two, the record's own and what follows from them, and the rewriting set `ring`
-- that decides its equations.
use mathlib.Core.Path.{◌≡◌, sym, ap, ◌∙◌}
use mathlib.Core.Logic.{◌≢◌}
use Rattle.algebra.specs.Field.{Field}

module _ (K : Field) where
  infixl 65 ◌⊕◌
  infixl 70 ◌⊗◌
  open K use {carrier as F, 𝟘, 𝟙, add as ◌⊕◌, mul as ◌⊗◌}

  -- Terms change places.
  pub add_comm : (a b : F) → a ⊕ b ≡ b ⊕ a
  add_comm = K.add_comm

  -- Sums may be grouped anyhow.
  pub add_assoc : (a b c : F) → a ⊕ b ⊕ c ≡ a ⊕ (b ⊕ c)
  add_assoc = K.add_assoc

  -- The first two of three terms change places.
  pub add_left_comm : (a b c : F) → a ⊕ (b ⊕ c) ≡ b ⊕ (a ⊕ c)
  add_left_comm a b c = rw (← add_assoc a b c, add_comm a b, add_assoc)

  -- Zero adds nothing.
  pub add-zero : (a : F) → a ⊕ 𝟘 ≡ a
  add-zero = K.add-zero

  -- The same on the left.
  pub zero-add : (a : F) → 𝟘 ⊕ a ≡ a
  zero-add a = rw (add_comm, add-zero)

  -- Characteristic two: an element is its own negative.
  pub add_self : (a : F) → a ⊕ a ≡ 𝟘
  add_self = K.add_self

  -- So adding it twice changes nothing.
  pub add_self_left : (a b : F) → a ⊕ (a ⊕ b) ≡ b
  add_self_left a b = rw (← add_assoc, add_self, zero-add)

  -- Factors change places.
  pub mul_comm : (a b : F) → a ⊗ b ≡ b ⊗ a
  mul_comm = K.mul_comm

  -- Products may be grouped anyhow.
  pub mul_assoc : (a b c : F) → a ⊗ b ⊗ c ≡ a ⊗ (b ⊗ c)
  mul_assoc = K.mul_assoc

  -- The first two of three factors change places.
  pub mul_left_comm : (a b c : F) → a ⊗ (b ⊗ c) ≡ b ⊗ (a ⊗ c)
  mul_left_comm a b c = rw (← mul_assoc a b c, mul_comm a b, mul_assoc)

  -- One changes nothing.
  pub mul-one : (a : F) → a ⊗ 𝟙 ≡ a
  mul-one = K.mul-one

  -- The same on the left.
  pub one-mul : (a : F) → 𝟙 ⊗ a ≡ a
  one-mul a = rw (mul_comm, mul-one)

  -- A product is taken into a sum.
  pub mul-add : (a b c : F) → a ⊗ (b ⊕ c) ≡ a ⊗ b ⊕ a ⊗ c
  mul-add = K.mul-add

  -- The same from the right.
  pub add-mul : (a b c : F) → (a ⊕ b) ⊗ c ≡ a ⊗ c ⊕ b ⊗ c
  add-mul a b c = rw (mul_comm (a ⊕ b) c, mul-add, mul_comm c a, mul_comm c b)

  -- A product with zero is zero.
  pub mul-zero : (a : F) → a ⊗ 𝟘 ≡ 𝟘
  mul-zero a = sym (ap (λ x. a ⊗ x) (add_self 𝟘)) ∙ mul-add a 𝟘 𝟘 ∙ add_self (a ⊗ 𝟘)

  -- The same on the left.
  pub zero-mul : (a : F) → 𝟘 ⊗ a ≡ 𝟘
  zero-mul a = rw (mul_comm, mul-zero)

-- Both sides of an equation are multiplied out, sorted and cancelled: `simp ring` decides it.
pub ruleset ring = (
  add_comm,
  add_assoc,
  add_left_comm,
  add-zero,
  zero-add,
  add_self,
  add_self_left,
  mul_comm,
  mul_assoc,
  mul_left_comm,
  mul-one,
  one-mul,
  mul-zero,
  zero-mul,
  mul-add,
  add-mul,
)

module _ (K : Field) where
  infixl 65 ◌⊕◌
  infixl 70 ◌⊗◌
  open K use {carrier as F, 𝟘, add as ◌⊕◌, mul as ◌⊗◌, inv, mul_inv, one_ne_zero}

  -- A sum is zero only where its terms agree.
  pub eq_of_add : (a b : F) → a ⊕ b ≡ 𝟘 → a ≡ b
  eq_of_add a b h = let e : a ≡ (a ⊕ b) ⊕ b = simp ring in e ∙ simp (h, ring)

  -- The sum of two different elements is not zero.
  pub add_ne_zero : (a b : F) → a ≢ b → a ⊕ b ≢ 𝟘
  add_ne_zero a b n h = n (eq_of_add a b h)

  -- An inverse undoes the product with its element.
  pub inv_mul_left : (a b : F) → a ≢ 𝟘 → inv a ⊗ (a ⊗ b) ≡ b
  inv_mul_left a b n = rw (← mul_assoc, mul_comm K (inv a) a, mul_inv a n, one-mul)

  -- A product undoes the inverse.
  pub mul_inv_left : (a b : F) → a ≢ 𝟘 → a ⊗ (inv a ⊗ b) ≡ b
  mul_inv_left a b n = rw (← mul_assoc, mul_inv a n, one-mul)

  -- A product is zero only where a factor is.
  pub mul_eq_zero : (a b : F) → a ≢ 𝟘 → a ⊗ b ≡ 𝟘 → b ≡ 𝟘
  mul_eq_zero a b n h = sym (inv_mul_left a b n) ∙ rw (h, mul-zero)

  -- The product of elements that are not zero is not zero.
  pub mul_ne_zero : (a b : F) → a ≢ 𝟘 → b ≢ 𝟘 → a ⊗ b ≢ 𝟘
  mul_ne_zero a b n m h = m (mul_eq_zero a b n h)

  -- An inverse is not zero.
  pub inv_ne_zero : (a : F) → a ≢ 𝟘 → inv a ≢ 𝟘
  inv_ne_zero a n h = one_ne_zero (sym (mul_inv a n) ∙ rw (h, mul-zero))
