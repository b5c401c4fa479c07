-- The sum and the product of a list, and lists made entry by entry.
use mathlib.Core.Path.{◌≡◌, sym, ap, ap₂, ◌∙◌}
use mathlib.Core.List.{List, [], ◌∷◌}
use Prim.Native.Nat.{ℕ, suc, ◌+◌, ◌<◌, ◌≤◌}
use native.Mathlib.Numerals.{add-one}
use lib.Dec.{lit<}
use lib.ListN.{length, get_or, take, drop, drop_of_length-le}
use lib.Seq.{drop-cons, get_or-take, length-take-le}
use Rattle.std.specs.List.{fold}
use Rattle.lists.specs.Listed.{listed}
use Rattle.lists.proofs.Listed.{listed_length, listed_at, listed_ext, listed_take}
use Rattle.gf256.specs.Field.{◌⊕◌, ◌⊗◌, inverse, total_of, product_of, products_of, inverses_of, quotients_of}
use Rattle.gf256.proofs.Xor.{add_assoc, add-zero}
use Rattle.gf256.proofs.Product.{mul_left_comm, mul_assoc, mul_lt, mul-one, one-mul}

-- ---- the sum so far, and the sum of the entries from i on
module _ (xs : List ℕ) (t i : ℕ) where
  pub total_done : length xs ≤ i → t ⊕ total_of (drop i xs) ≡ t
  unfolding total_of
  total_done h = ap (λ (ys : List ℕ). t ⊕ total_of ys) (drop_of_length-le xs h) ∙ add-zero t

  pub total_step : i < length xs → (t ⊕ get_or xs i 0) ⊕ total_of (drop (i + 1) xs) ≡ t ⊕ total_of (drop i xs)
  unfolding total_of
  total_step h =
      ap (λ (j : ℕ). (t ⊕ get_or xs i 0) ⊕ total_of (drop j xs)) (add-one i)
      ∙ add_assoc t (get_or xs i 0) (total_of (drop (suc i) xs))
      ∙ ap (λ (ys : List ℕ). t ⊕ total_of ys) (sym (drop-cons xs i 0 h))

-- ---- the product as a fold from p on
product_lt : (xs : List ℕ) → product_of xs < 256
unfolding product_of
product_lt [] = lit< tt
product_lt (x ∷ xs) = mul_lt x (product_of xs)

pub product_start : (xs : List ℕ) → 1 ⊗ product_of xs ≡ product_of xs
product_start xs = one-mul (product_of xs) (product_lt xs)

pub fold_product : (p : ℕ) (xs : List ℕ) → p < 256 → fold (λ p x. x ⊗ p) p xs ≡ p ⊗ product_of xs
unfolding product_of
fold_product p [] h = sym (mul-one p h)
fold_product p (x ∷ xs) h =
    fold_product (x ⊗ p) xs (mul_lt x p) ∙ mul_assoc x p (product_of xs) ∙ mul_left_comm x p (product_of xs)

-- ---- lists made entry by entry
pub inverses_length : (ys : List ℕ) → length (inverses_of ys) ≡ length ys
unfolding inverses_of
inverses_length ys = listed_length (length ys) _

pub products_length : (xs ys : List ℕ) → length (products_of xs ys) ≡ length xs
unfolding products_of
products_length xs ys = listed_length (length xs) _

pub inverses_listed : (m : ℕ) (g : ℕ → ℕ) → inverses_of (listed m g) ≡ listed m (λ i. inverse (g i))
unfolding inverses_of
inverses_listed m g =
    ap (λ (n : ℕ). listed n (λ i. inverse (get_or (listed m g) i 0))) (listed_length m g)
    ∙ listed_ext m _ _ (λ i h. ap inverse (listed_at m g i 0 h))

pub products_listed : (m : ℕ) (f g : ℕ → ℕ) → products_of (listed m f) (listed m g) ≡ listed m (λ i. f i ⊗ g i)
unfolding products_of
products_listed m f g =
    ap (λ (n : ℕ). listed n (λ i. get_or (listed m f) i 0 ⊗ get_or (listed m g) i 0)) (listed_length m f)
    ∙ listed_ext m _ _ (λ i h. ap₂ ◌⊗◌ (listed_at m f i 0 h) (listed_at m g i 0 h))

pub quotients_listed : (m : ℕ) (f g : ℕ → ℕ)
    → quotients_of (listed m f) (listed m g) ≡ listed m (λ i. f i ⊗ inverse (g i))
unfolding quotients_of
quotients_listed m f g =
    ap (products_of (listed m f)) (inverses_listed m g) ∙ products_listed m f (λ i. inverse (g i))

-- the products of two fronts are the front of the products
pub products_take : (m : ℕ) (xs ys : List ℕ) → m ≤ length xs
    → take m (products_of xs ys) ≡ products_of (take m xs) (take m ys)
unfolding products_of
products_take m xs ys h =
    listed_take m (length xs) _ h
    ∙ sym (ap (λ (n : ℕ). listed n (λ i. get_or (take m xs) i 0 ⊗ get_or (take m ys) i 0)) (length-take-le m xs h)
    ∙ listed_ext m _ _ (λ i l. ap₂ ◌⊗◌ (get_or-take m xs i 0 l) (get_or-take m ys i 0 l)))
