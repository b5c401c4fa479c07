-- The data nodes: they differ, a parity node is none of them, and what their weights are.
use mathlib.Core.Path.{◌≡◌, refl, sym, ap, ◌∙◌}
use mathlib.Core.List.{List}
use Prim.Native.Nat.{ℕ, ◌≤◌, ◌<◌}
use native.Mathlib.Omega.{arith}
use lib.ListN.{length, get_or, take}
use lib.Seq.{ext_get_or}
use Rattle.lists.specs.Listed.{listed}
use Rattle.lists.proofs.Listed.{listed_length, listed_at, listed_take}
use Rattle.algebra.specs.Weight.{weight}
use Rattle.algebra.proofs.Weight.{weight_ext}
use Rattle.document.specs.ByteField.{bytes, byte, number}
use Rattle.coefficients.specs.declared.TheConstants.{FIRST_NODES}
use Rattle.coefficients.specs.Weights.{Different, Outside, points, weights_of}
use Rattle.coefficients.specs.Data.{data_nodes, data_weights}
use Rattle.coefficients.proofs.Lagrange.{weights_length, weights_at}

data_at : (k q : ℕ) → q < k → get_or (data_nodes k) q 0 ≡ q
unfolding data_nodes
data_at k q h = listed_at k (λ q. q) q 0 h

pub data_length : (k : ℕ) → length (data_nodes k) ≡ k
unfolding data_nodes
data_length k = listed_length k (λ q. q)

-- the first nodes, as the code lists them: the whole list is compared
first_nodes : FIRST_NODES ≡ listed 24 (λ q. q)
unfolding listed
first_nodes = refl

pub data_nodes_lem : (k : ℕ) → k ≤ 24 → take k FIRST_NODES ≡ data_nodes k
unfolding data_nodes
data_nodes_lem k h = ap (take k) first_nodes ∙ listed_take k 24 (λ q. q) h

pub data_different : (k : ℕ) → k ≤ 24 → Different (data_nodes k)
data_different k h = record {
  few = rw data_length h;
  apart = λ i j l b e. omega (arith, l, at i j l b e);
}
  where
    at : (i j : ℕ) → i < j → j < length (data_nodes k) → get_or (data_nodes k) i 0 ≡ get_or (data_nodes k) j 0 → i ≡ j
    at i j l b e =
        let c : j < k = rw data_length at b in
        sym (data_at k i (omega arith)) ∙ e ∙ data_at k j c

-- a parity node is none of them
pub parity_outside : (k j : ℕ) → k ≤ j → Outside (data_nodes k) j
parity_outside k j h q b e =
    let c : q < k = rw data_length at b in
    let d : q ≡ j = sym (data_at k q c) ∙ e in
    omega arith

-- ---- the weights at a node
pub data_weights_length : (k j : ℕ) → length (data_weights k j) ≡ k
unfolding data_weights
data_weights_length k j = listed_length k _

pub data_weight : (k j q : ℕ) → q < k → get_or (data_weights k j) q 0 ≡ number (weight bytes k byte q (byte j))
unfolding data_weights
data_weight k j q h = listed_at k _ q 0 h

-- those computed from the list of data nodes
pub data_weights_lem : (k j : ℕ) → weights_of (data_nodes k) j ≡ data_weights k j
data_weights_lem k j =
    ext_get_or 0 _ _ (weights_length (data_nodes k) j ∙ data_length k ∙ sym (data_weights_length k j))
    (λ q h. at q (rw (weights_length, data_length) at h))
  where
    at : (q : ℕ) → q < k → get_or (weights_of (data_nodes k) j) q 0 ≡ get_or (data_weights k j) q 0
    at q h =
        weights_at (data_nodes k) j q (rw data_length h)
        ∙ ap (λ (m : ℕ). number (weight bytes m (points (data_nodes k)) q (byte j))) (data_length k)
        ∙ ap number (weight_ext bytes k (points (data_nodes k)) byte q (byte j) (λ i l. ap byte (data_at k i l)) h)
        ∙ sym (data_weight k j q h)
