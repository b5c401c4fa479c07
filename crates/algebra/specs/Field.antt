-- Fields of characteristic two, with decidable equality. Everything else in this crate is over any such field K.
--
-- carrier K    : the elements (written F)
-- 𝟘, 𝟙         : zero and one
-- add, mul     : sum and product (written ⊕ and ⊗); a difference is a sum
-- inv a        : the inverse of a; nothing is said of the inverse of 𝟘
-- eq? a b      : whether a and b are equal
use Rattle.std.specs.Prelude.{◌≡◌, ◌≢◌}

-- A field of characteristic two: the operations, then their laws.
pub record Field : Type 1 where
  pub carrier : Type 0
  pub 𝟘 : carrier
  pub 𝟙 : carrier
  pub add : carrier → carrier → carrier
  pub mul : carrier → carrier → carrier
  pub inv : carrier → carrier
  pub eq? : (a b : carrier) → Dec (a ≡ b)
  pub add_comm : (a b : carrier) → add a b ≡ add b a
  pub add_assoc : (a b c : carrier) → add (add a b) c ≡ add a (add b c)
  pub add-zero : (a : carrier) → add a 𝟘 ≡ a
  pub add_self : (a : carrier) → add a a ≡ 𝟘
  pub mul_comm : (a b : carrier) → mul a b ≡ mul b a
  pub mul_assoc : (a b c : carrier) → mul (mul a b) c ≡ mul a (mul b c)
  pub mul-one : (a : carrier) → mul a 𝟙 ≡ a
  pub mul-add : (a b c : carrier) → mul a (add b c) ≡ add (mul a b) (mul a c)
  pub mul_inv : (a : carrier) → a ≢ 𝟘 → mul a (inv a) ≡ 𝟙
  pub one_ne_zero : 𝟙 ≢ 𝟘
