-- A row of the lost column as one sum: what the rebuilt symbol is made of, each chosen node with its partner taken
-- together first. Here c = f % A is the lost node's local column.
--
-- folded K A θ f s x q              : what is stored in row c at chosen node q, with its partner taken out; not divided
-- scale K A θ f i                   : what row c is multiplied by for row i of the lost column
-- own K A θ f x i                   : what the other node i of the lost group gives to row i; 𝟘 where i is c
-- coefficient K A k point θ f s i q : by what the folded symbol q is multiplied for row i of the lost column
use Rattle.std.specs.Prelude.{ℕ, ◌%◌}
use Rattle.std.proofs.Math.Decide.{ℕ_discrete}
use Rattle.algebra.specs.Field.{Field}
use Rattle.algebra.specs.Pick.{pick}
use Rattle.algebra.specs.Weight.{weight}
use Rattle.algebra.specs.Coupling.{Array, partner_node, pair}

module _ (K : Field) (A : ℕ) (θ : ℕ → ℕ → K.carrier) (f : ℕ) where
  infixl 65 ◌⊕◌
  infixl 70 ◌⊗◌
  open K use {carrier as F, 𝟘, 𝟙, add as ◌⊕◌, mul as ◌⊗◌, inv}

  -- The base symbol of row c at chosen node q, times the determinant of its pair.
  unfoldable pub folded : (ℕ → ℕ) → Array K → ℕ → F
  folded s x q = x (f % A) (s q) ⊕ θ (f % A) (s q % A) ⊗ x (s q % A) (partner_node A (f % A) (s q))

  -- Row c itself at the lost node; elsewhere it is taken out of the other node's symbol, and coupled again.
  unfoldable pub scale : ℕ → F
  scale i = pick (ℕ_discrete i (f % A)) 𝟙 (inv (θ (f % A) i) ⊕ θ i (f % A))

  -- Row c of the other node i of the lost group, divided by its factor.
  unfoldable pub own : Array K → ℕ → F
  own x i = pick (ℕ_discrete i (f % A)) 𝟘 (inv (θ (f % A) i) ⊗ x (f % A) (partner_node A i f))

module _ (K : Field) (A k : ℕ) (point : ℕ → K.carrier) (θ : ℕ → ℕ → K.carrier) (f : ℕ) (s : ℕ → ℕ) where
  infixl 70 ◌⊗◌
  open K use {carrier as F, mul as ◌⊗◌, inv}

  -- The weight at node i of the lost group, divided by the determinant that the folded symbol still holds.
  unfoldable pub coefficient : ℕ → ℕ → F
  coefficient i q =
      scale K A θ f i
      ⊗ (weight K k (λ q. point (s q)) q (point (partner_node A i f)) ⊗ inv (pair K θ (f % A) (s q % A)))
