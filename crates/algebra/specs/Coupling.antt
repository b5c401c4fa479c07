-- The coupling of rows. An array has a symbol at each row i and node j; nodes stand in groups of A, as many as there
-- are rows. Node j lies in group j / A at local column j % A.
--
-- Array K             : a symbol for each row and node, row first
-- partner_node A i j   : the node of the partner of row i, node j; the partner's row is j % A
-- θ                   : the factor table; θ i l goes with row i at local column l
-- stored K A θ a i j  : what is stored at row i, node j for the base array a
-- pair K θ i l        : 1 ⊕ θ(i,l) θ(l,i), by which a pair of stored symbols is taken apart
-- base K A θ x i j    : the base symbol at row i, node j for the stored array x
-- factor K c          : document 01's factor table, with c i l for the coupling constant of the lower strips
use Rattle.std.specs.Prelude.{ℕ, ◌+◌, ◌*◌, ◌/◌, ◌%◌}
use Rattle.std.proofs.Math.Decide.{ℕ_discrete, dec_lt}
use Rattle.algebra.specs.Field.{Field}
use Rattle.algebra.specs.Pick.{pick}

-- 'The partner of row i, node j is row l, node gA+i', where g = j div A and l = j mod A.
abbrev pub partner_node : ℕ → ℕ → ℕ → ℕ
partner_node A i j = j / A * A + i

module _ (K : Field) where
  infixl 65 ◌⊕◌
  infixl 70 ◌⊗◌
  open K use {carrier as F, 𝟘, 𝟙, add as ◌⊕◌, mul as ◌⊗◌, inv}

  -- A symbol for each row and node, row first.
  abbrev pub Array : Type 0
  Array = ℕ → ℕ → F

  -- The stored symbol is the base symbol and a multiple of its partner.
  unfoldable pub stored : ℕ → (ℕ → ℕ → F) → Array → Array
  stored A θ a i j = a i j ⊕ θ i (j % A) ⊗ a (j % A) (partner_node A i j)

  -- The determinant of the two equations that couple row i at local column l with its partner.
  abbrev pub pair : (ℕ → ℕ → F) → ℕ → ℕ → F
  pair θ i l = 𝟙 ⊕ θ i l ⊗ θ l i

  -- The base symbol, from the stored symbol and its partner.
  unfoldable pub base : ℕ → (ℕ → ℕ → F) → Array → Array
  base A θ x i j = inv (pair θ i (j % A)) ⊗ (x i j ⊕ θ i (j % A) ⊗ x (j % A) (partner_node A i j))

  -- The factor of row i at local column l: none where i = l, 1 where i < l, the constant c i l where i > l.
  unfoldable pub factor : (ℕ → ℕ → F) → ℕ → ℕ → F
  factor c i l = pick (ℕ_discrete i l) 𝟘 (pick (dec_lt i l) 𝟙 (c i l))
