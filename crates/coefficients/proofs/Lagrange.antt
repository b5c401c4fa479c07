-- The weights and denominators of lists of nodes: no divisor is 0, and the shares divided by their sum are the weights.
use mathlib.Core.Path.{◌≡◌, sym, ap, ap₂, subst, ◌∙◌}
use mathlib.Core.Logic.{◌≢◌}
use mathlib.Core.List.{List}
use Prim.Native.Nat.{ℕ, ◌<◌}
use lib.ListN.{length, get_or}
use lib.Seq.{ext_get_or}
use native.Mathlib.Omega.{arith}
use Rattle.lists.specs.Listed.{listed}
use Rattle.lists.proofs.Listed.{listed_length, listed_at, listed_ext}
use Rattle.gf256.specs.Field.{◌⊕◌, ◌⊗◌, inverse, total_of, products_of, inverses_of, NoZero}
use Rattle.gf256.proofs.Lists.{products_listed, inverses_listed}
use Rattle.algebra.specs.Polynomial.{DistinctPoints}
use Rattle.algebra.specs.Sum.{sum}
use Rattle.algebra.specs.Weight.{weight, product_but}
use Rattle.algebra.proofs.Field.{add_ne_zero, mul_ne_zero}
use Rattle.algebra.proofs.Polynomial.{apart}
use Rattle.algebra.proofs.Weight.{product_ne_zero, sum_ne_zero, weight_share}
use Rattle.document.specs.ByteField.{bytes, Byte, byte, number}
use Rattle.document.proofs.ByteField.{number_byte, number_above, number_add, number_mul, number_inv}
use Rattle.coupling.specs.Pairs.{multiple_of}
use Rattle.coupling.proofs.Multiples.{multiple_listed}
use Rattle.coefficients.specs.Weights.{Different, Outside, points, weights_of, differences_of}
use Rattle.coefficients.specs.Weights.{denominator_of, denominators_of, shares_of, Divisors, weights_from}
use Rattle.coefficients.proofs.Lists.{total_listed}

-- ---- for callers: the length and the entries of the weights
pub weights_length : (nodes : List ℕ) (at : ℕ) → length (weights_of nodes at) ≡ length nodes
unfolding weights_of
weights_length nodes at = listed_length (length nodes) _

pub weights_at : (nodes : List ℕ) (at q : ℕ) → q < length nodes
    → get_or (weights_of nodes at) q 0 ≡ number (weight bytes (length nodes) (points nodes) q (byte at))
unfolding weights_of
weights_at nodes at q l = listed_at (length nodes) _ q 0 l

-- ---- the divisors
pub differences_length : (nodes : List ℕ) (x : ℕ) → length (differences_of nodes x) ≡ length nodes
unfolding differences_of
differences_length nodes x = listed_length (length nodes) _

pub denominators_length : (nodes : List ℕ) → length (denominators_of nodes) ≡ length nodes
unfolding denominators_of
denominators_length nodes = listed_length (length nodes) (denominator_of nodes)

-- A list of bytes that are not 0.
pub no_zero : (m : ℕ) (f : ℕ → Byte) → ((i : ℕ) → i < m → f i ≢ bytes.𝟘) → NoZero (listed m (λ i. number (f i)))
no_zero m f n i l =
    let b : i < m = rw listed_length at l in
    rw (listed_at m (λ i. number (f i)) i 0 b) (number_above (f i) (n i b))

-- A difference of bytes, as a program computes it.
pub difference : (a b : ℕ) → a < 256 → b < 256 → a ⊕ b ≡ number (bytes.add (byte a) (byte b))
difference a b h k = rw (number_add, number_byte a h, number_byte b k)

module _ (nodes : List ℕ) (small : (i : ℕ) → get_or nodes i 0 < 256) (D : Different nodes) where
  -- Different nodes are different points.
  points_apart : DistinctPoints bytes (length nodes) (points nodes)
  points_apart i j l b e =
      D.apart i j l b
      (sym (number_byte (get_or nodes i 0) (small i)) ∙ ap number e ∙ number_byte (get_or nodes j 0) (small j))

  -- What the weight of node q is divided by beside its difference.
  below : ℕ → Byte
  below q = product_but bytes (length nodes) q (λ i. bytes.add (points nodes q) (points nodes i))

  below_ne_zero : (q : ℕ) → q < length nodes → below q ≢ bytes.𝟘
  unfolding below
  below_ne_zero q l =
      product_ne_zero bytes (length nodes) q _
      (λ i h n. add_ne_zero bytes (points nodes q) (points nodes i)
      (apart bytes (length nodes) (points nodes) points_apart q l i h n))

  module _ (at : ℕ) (l : at < 256) (o : Outside nodes at) where
    -- A node that is none of the nodes is none of the points.
    point_outside : (i : ℕ) → i < length nodes → byte at ≢ points nodes i
    point_outside i b e =
        o i b (sym (sym (number_byte at l) ∙ ap number e ∙ number_byte (get_or nodes i 0) (small i)))

    -- What the weight of node q is divided by, and the inverse of it.
    divisor : ℕ → Byte
    divisor q = bytes.mul (bytes.add (byte at) (points nodes q)) (below q)

    share : ℕ → Byte
    share q = bytes.inv (divisor q)

    divisors_listed : products_of (differences_of nodes at) (denominators_of nodes)
        ≡ listed (length nodes) (λ q. number (divisor q))
    unfolding differences_of denominators_of denominator_of below divisor
    divisors_listed =
        products_listed (length nodes) (λ q. number (bytes.add (byte at) (points nodes q))) (λ q. number (below q))
        ∙ listed_ext (length nodes) _ _ (λ q h. sym (number_mul (bytes.add (byte at) (points nodes q)) (below q)))

    shares_listed : shares_of (differences_of nodes at) (denominators_of nodes)
        ≡ listed (length nodes) (λ q. number (share q))
    unfolding share
    shares_listed =
        ap inverses_of divisors_listed ∙ inverses_listed (length nodes) (λ q. number (divisor q))
        ∙ listed_ext (length nodes) _ _ (λ q h. sym (number_inv (divisor q)))

    divisors_no_zero : NoZero (products_of (differences_of nodes at) (denominators_of nodes))
    unfolding divisor
    divisors_no_zero =
        subst NoZero (sym divisors_listed)
        (no_zero (length nodes) divisor
        (λ q h. mul_ne_zero bytes (bytes.add (byte at) (points nodes q)) (below q)
        (add_ne_zero bytes (byte at) (points nodes q) (point_outside q h)) (below_ne_zero q h)))

    total : total_of (shares_of (differences_of nodes at) (denominators_of nodes)) ≡ number (sum bytes (length nodes) share)
    total = ap total_of shares_listed ∙ total_listed (length nodes) share

    module _ (some : 0 < length nodes) where
      share_sum : sum bytes (length nodes) share ≢ bytes.𝟘
      unfolding share divisor below
      share_sum = sum_ne_zero bytes (length nodes) (points nodes) (byte at) some points_apart point_outside

      share_weight : (q : ℕ) → q < length nodes
          → bytes.mul (bytes.inv (sum bytes (length nodes) share)) (share q)
          ≡ weight bytes (length nodes) (points nodes) q (byte at)
      unfolding share divisor below
      share_weight = weight_share bytes (length nodes) (points nodes) (byte at) some points_apart point_outside

      -- What `weights` divides by.
      pub divisors : Divisors (differences_of nodes at) (denominators_of nodes)
      divisors = record {
        alike = differences_length nodes at ∙ sym (denominators_length nodes);
        no_zero = divisors_no_zero;
        no_zero_total = rw total (number_above (sum bytes (length nodes) share) share_sum);
      }

      -- The weights, by shares.
      pub weights_from_lem : weights_from (differences_of nodes at) (denominators_of nodes) ≡ weights_of nodes at
      unfolding weights_from weights_of
      weights_from_lem =
          ap₂ (λ (t : ℕ) (us : List ℕ). multiple_of (inverse t) us) total shares_listed
          ∙ multiple_listed (inverse (number (sum bytes (length nodes) share))) (length nodes) (λ q. number (share q))
          ∙ listed_ext (length nodes) _ _ one
        where
          one : (q : ℕ) → q < length nodes
              → inverse (number (sum bytes (length nodes) share)) ⊗ number (share q)
              ≡ number (weight bytes (length nodes) (points nodes) q (byte at))
          one q h =
              ap (λ (v : ℕ). v ⊗ number (share q)) (sym (number_inv (sum bytes (length nodes) share)))
              ∙ sym (number_mul (bytes.inv (sum bytes (length nodes) share)) (share q)) ∙ ap number (share_weight q h)

-- Nothing is written where there are no nodes.
pub weights_none : (nodes out : List ℕ) (at : ℕ) → length nodes ≡ 0 → length out ≡ length nodes
    → out ≡ weights_of nodes at
weights_none nodes out at e h =
    ext_get_or 0 out (weights_of nodes at) (h ∙ sym (weights_length nodes at)) (λ i l. absurd (omega arith))
