-- The half pairs of a reading: the strips read whose partner, on a node that is not named, is not. The base symbols of
-- their partners are the unknowns of a small system, and all other base symbols follow from them: the equations are in
-- algebra/specs/HalfPairs.antt. That the system decides as document 01's coefficient square does is `stuck_ambiguous`
-- and `regular_clear` in proofs/System.antt.
--
-- position_table nodes        : where each node below max_nodes stands among the nodes
-- named nodes q              : the q-th named node
-- is_named k nodes j          : the test whether node j is one of the k named nodes
-- weight_row k nodes j        : the weight at node j of each of the k named nodes, where j is none of them; otherwise
--                              zeros, which nobody asks for
-- partner_at p nodes z        : the partner of strip z of the named nodes' columns
-- is_half_pair p nodes z       : the test whether strip z is a half pair
-- half_pairs p nodes          : the numbers of the half pairs, rising
-- half_pair_at p nodes e       : the e-th half pair
-- node_weights p nodes        : the rows of weights of all nodes, node after node
-- weight_table p nodes        : the same in a table with room for max_nodes times max_nodes, with zeros past them
-- coefficient_in p nodes r y  : the coefficient of the partner of strip y in the equation for the base symbol at the
--                              place r; 𝟘 where y is in another row
-- system_at p nodes e f       : the entry of the system for the e-th and the f-th half pair
-- system_line p nodes e       : its line e, in `side` bytes: zeros past its entries
-- system_square p nodes       : the system in an array of `side` lines: zeros past its lines
-- system_end p nodes          : how its elimination ends
-- HalfPairsOf p nodes h      : h holds what the system of the named nodes is made of: zeros past the half pairs
-- joined_at p nodes x b i j   : byte b of the strip that the joined columns x have for row i of the named node j
use Rattle.std.specs.Prelude.{◌≡◌, Bool, not, cond, List, ◌++◌, ℕ, ◌+◌, ◌*◌, ◌/◌, ◌%◌, ltb, length, get_or, drop, replicate}
use Rattle.std.proofs.Math.Decide.{ℕ_discrete}
use Rattle.lists.specs.Listed.{listed, rising}
use Rattle.lists.specs.Put.{put}
use Rattle.algebra.specs.Pick.{pick}
use Rattle.algebra.specs.Coupling.{Array}
use Rattle.algebra.specs.HalfPairs.{weight_at, half_factor, system}
use Rattle.square.specs.declared.Line.{Line}
use Rattle.square.specs.Steps.{side, filled, unit_square}
use Rattle.square.specs.Elimination.{Eliminated, eliminated}
use Rattle.document.specs.declared.Profile.{Profile}
use Rattle.document.specs.declared.Place.{Place}
use Rattle.document.specs.Profile.{max_nodes}
use Rattle.document.specs.Places.{partner_of}
use Rattle.document.specs.ByteField.{bytes, Byte, byte, number}
use Rattle.document.specs.Encoding.{factor_at}
use Rattle.document.specs.Reading.{joined_place}
use Rattle.coefficients.specs.Weights.{weights_of}
use Rattle.lists.specs.Positions.{position_in}
use Rattle.half_pairs.specs.declared.HalfPairs.{HalfPairs}

infixl 70 ◌⊗◌
open bytes use {𝟘, mul as ◌⊗◌}

unfoldable pub position_table : List ℕ → List ℕ
position_table nodes = listed max_nodes (position_in nodes)

abbrev pub named : List ℕ → ℕ → ℕ
named nodes q = get_or nodes q 0

abbrev pub is_named : ℕ → List ℕ → ℕ → Bool
is_named k nodes j = ltb (position_in nodes j) k

unfoldable pub weight_row : ℕ → List ℕ → ℕ → List ℕ
weight_row k nodes j = cond (is_named k nodes j) (listed k (λ q. 0)) (weights_of nodes j)

module _ (p : Profile) (nodes : List ℕ) where
  open p use {n, k, a as A, s as S}

  abbrev pub partner_at : ℕ → Place
  partner_at z = partner_of A (joined_place p nodes z)

  abbrev pub is_half_pair : ℕ → Bool
  is_half_pair z = not (is_named k nodes (partner_at z).node.0)

  unfoldable pub half_pairs : List ℕ
  half_pairs = rising (k * A) is_half_pair

  abbrev pub half_pair_at : ℕ → ℕ
  half_pair_at e = get_or half_pairs e 0

  unfoldable pub node_weights : List ℕ
  node_weights = listed (n * k) (λ e. get_or (weight_row k nodes (e / k)) (e % k) 0)

  unfoldable pub weight_table : List ℕ
  weight_table = node_weights ++ drop (n * k) (replicate (max_nodes * max_nodes) 0)

  -- The algebra's `partner_coefficient`, where r is the partner of a strip.
  unfoldable pub coefficient_in : Place → ℕ → Byte
  coefficient_in r y =
      pick (ℕ_discrete (y % A) r.row.0)
      (half_factor bytes A k byte (factor_at p) (named nodes) (position_in nodes) (y % A) (y / A)
      ⊗ weight_at bytes k byte (named nodes) (y / A) r.node.0)
      𝟘

  abbrev pub system_at : ℕ → ℕ → Byte
  system_at = system bytes A k byte (factor_at p) (named nodes) (position_in nodes) half_pair_at

  unfoldable pub system_line : ℕ → List ℕ
  system_line e = listed side (λ f. cond (ltb f (length half_pairs)) (number (system_at e f)) 0)

  unfoldable pub system_square : List Line
  system_square =
      filled (λ e. record { c = system_line e }) (replicate side (record { c = replicate side 0 })) (length half_pairs)

  abbrev pub system_end : Eliminated
  system_end = eliminated (length half_pairs) (length half_pairs) system_square (unit_square side)

  pub record HalfPairsOf (h : HalfPairs) : Type 0 where
    pub positions : h.positions ≡ position_table nodes
    pub halves : h.halves ≡ put (replicate side 0) 0 half_pairs
    pub count : h.count ≡ length half_pairs
    pub table : h.table ≡ weight_table

  abbrev pub joined_at : List ℕ → ℕ → Array bytes
  joined_at x b i j = byte (get_or x ((position_in nodes j * A + i) * S + b) 0)
