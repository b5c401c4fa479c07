-- The table of weights of the named nodes.
use mathlib.Core.Path.{◌≡◌, sym, ap, ap₂, ◌∙◌}
use mathlib.Core.Bool.{Bool, true, false, cond}
use mathlib.Core.List.{List}
use Prim.Native.Nat.{ℕ, ◌+◌, ◌*◌, ◌≤◌, ◌<◌}
use native.Mathlib.Omega.{arith}
use lib.Arith.{digits_lt, digits_div, digits_mod}
use lib.ListN.{length, get_or, take, drop, replicate, length-append, length-drop, length-replicate, get_or-append}
use lib.Seq.{take-append-le, drop-append-le}
use borrow.Author.Tests.{lt-ltb, le-ltb, ltb-false}
use Rattle.lists.specs.Listed.{listed}
use Rattle.lists.proofs.Listed.{listed_length, listed_at}
use Rattle.lists.proofs.Parts.{part_at}
use Rattle.ksets.specs.Sets.{Rising}
use Rattle.ksets.proofs.Ranked.{risen_length}
use Rattle.algebra.specs.Weight.{weight}
use Rattle.algebra.specs.HalfPairs.{weight_at}
use Rattle.document.specs.declared.Profile.{Profile}
use Rattle.document.specs.Profile.{Accepted}
use Rattle.document.specs.ByteField.{bytes, byte, number}
use Rattle.document.proofs.Bounds.{room, table_bound}
use Rattle.coefficients.specs.Weights.{Different, Outside, points, weights_of}
use Rattle.lists.specs.Positions.{position_in}
use Rattle.coefficients.proofs.Lagrange.{weights_length, weights_at}
use Rattle.half_pairs.specs.HalfPairs.{named, is_named, weight_row, node_weights, weight_table}
use Rattle.half_pairs.proofs.Named.{named_choice, named_positions}

-- the two kinds of rows
pub row_named : (k : ℕ) (nodes : List ℕ) (j : ℕ) → position_in nodes j < k → listed k (λ q. 0) ≡ weight_row k nodes j
unfolding weight_row
row_named k nodes j h = rw (lt-ltb (position_in nodes j) k h)

pub row_other : (k : ℕ) (nodes : List ℕ) (j : ℕ) → k ≤ position_in nodes j → weights_of nodes j ≡ weight_row k nodes j
unfolding weight_row
row_other k nodes j h = rw (le-ltb (position_in nodes j) k h)

pub row_length : (k : ℕ) (nodes : List ℕ) (j : ℕ) → length nodes ≡ k → length (weight_row k nodes j) ≡ k
unfolding weight_row
row_length k nodes j e = go (is_named k nodes j)
  where
    go : (b : Bool) → length (cond b (listed k (λ q. 0)) (weights_of nodes j)) ≡ k
    go true = listed_length k (λ q. 0)
    go false = weights_length nodes j ∙ e

module _ (p : Profile) (acc : Accepted p) (nodes : List ℕ) (rises : Rising p.n p.k nodes) where
  open p use {n, k}

  size : length nodes ≡ k
  size = risen_length rises

  pub nodes_different : Different nodes
  nodes_different = record {
    few = omega (arith, size, acc.shape.some_parity, acc.shape.few_nodes);
    apart = λ i j l h. (named_choice rises).apart i j l (omega (arith, size));
  }

  -- a node that is not named is none of them
  pub other_outside : (j : ℕ) → k ≤ position_in nodes j → Outside nodes j
  other_outside j h i l e =
      let at : position_in nodes (named nodes i) ≡ i = (named_positions rises size).there i (omega (arith, size)) in
      let same : position_in nodes j ≡ i = ap (position_in nodes) (sym e) ∙ at in
      omega (arith, size)

  node_weights_length : length (node_weights p nodes) ≡ n * k
  unfolding node_weights
  node_weights_length = listed_length (n * k) _

  pub weight_table_length : length (weight_table p nodes) ≡ 576
  unfolding weight_table
  weight_table_length =
      length-append (node_weights p nodes) (drop (n * k) (replicate 576 0))
      ∙ omega (
        arith,
        table_bound p acc,
        node_weights_length,
        length-drop {A = ℕ} (n * k) (replicate 576 0),
        length-replicate {A = ℕ} 576 0,
      )

  -- the weight of a named node at a node that is not named
  pub weight_entry : (j q : ℕ) → j < n → q < k → is_named k nodes j ≡ false
      → get_or (weight_table p nodes) (j * k + q) 0 ≡ number (weight_at bytes k byte (named nodes) q j)
  unfolding weight_table node_weights
  weight_entry j q h l other =
      get_or-append (node_weights p nodes) _ 0 (j * k + q) (omega (arith, node_weights_length, inside))
      ∙ listed_at (n * k) _ (j * k + q) 0 inside
      ∙ ap₂ (λ (m r : ℕ). get_or (weight_row k nodes m) r 0) (digits_div j l) (digits_mod j l)
      ∙ ap (λ (w : List ℕ). get_or w q 0) (sym (row_other k nodes j (ltb-false _ _ other)))
      ∙ weights_at nodes j q (omega (arith, size))
      ∙ ap (λ (m : ℕ). number (weight bytes m (points nodes) q (byte j))) size
    where
      inside : j * k + q < n * k
      inside = digits_lt h l

  -- the weights at node j in the table
  pub row_at : (j : ℕ) → j < n → take k (drop (j * k) (weight_table p nodes)) ≡ weight_row k nodes j
  unfolding weight_table node_weights
  row_at j h =
      let inside : j * k + k ≤ length (node_weights p nodes) = omega (arith, node_weights_length, room j n k h) in
      ap (take k) (drop-append-le (j * k) (node_weights p nodes) (drop (n * k) (replicate 576 0)) (omega arith))
      ∙ take-append-le k (drop (j * k) (node_weights p nodes)) (drop (n * k) (replicate 576 0)) (rw length-drop (omega arith))
      ∙ part_at k (weight_row k nodes) n j h (row_length k nodes j size)
