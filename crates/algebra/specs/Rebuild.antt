-- The rebuild of one lost node from any k chosen nodes outside its group.
--
-- f                                  : the lost node; c = f % A is its local column
-- s                                  : the chosen nodes, s 0 .. s (k-1)
-- row_symbol K A k point θ f s x j    : the base symbol of row c at node j, from what x stores
-- other_at K A k point θ f s x i      : the base symbol of row i at the lost node, for i other than c
-- rebuilt_at K A k point θ f s x i    : the stored symbol of row i at the lost node
-- Planned A k f s i j                : row i, node j is one of the places that the three above read
-- Agree K A k f s x y                : x and y store the same at every planned place
-- Needed K C f s a b                 : the planned place of row a, node b cannot be left out
use Rattle.std.specs.Prelude.{◌≡◌, ◌≢◌, ◌⊎◌, ℕ, ◌%◌, ◌<◌}
use Rattle.std.proofs.Math.Decide.{ℕ_discrete}
use Rattle.algebra.specs.Field.{Field}
use Rattle.algebra.specs.Pick.{pick}
use Rattle.algebra.specs.Sum.{sum}
use Rattle.algebra.specs.Weight.{weight}
use Rattle.algebra.specs.Coupling.{Array, partner_node, base}
use Rattle.algebra.specs.Encoding.{Code, Encoded}

module _ (K : Field) (A k : ℕ) (point : ℕ → K.carrier) (θ : ℕ → ℕ → K.carrier) (f : ℕ) (s : ℕ → ℕ) where
  infixl 65 ◌⊕◌
  infixl 70 ◌⊗◌
  open K use {carrier as F, add as ◌⊕◌, mul as ◌⊗◌, inv}

  -- Row c is a word of the row code: its symbol at node j is the weighted sum of those at the chosen nodes.
  unfoldable pub row_symbol : Array K → ℕ → F
  row_symbol x j = sum K k (λ q. base K A θ x (f % A) (s q) ⊗ weight K k (λ q. point (s q)) q (point j))

  -- Row c of another node of the lost group holds this symbol as its partner: taken out, and divided by its factor.
  unfoldable pub other_at : Array K → ℕ → F
  other_at x i = inv (θ (f % A) i) ⊗ (x (f % A) (partner_node A i f) ⊕ row_symbol x (partner_node A i f))

  -- The lost column, coupled again.
  unfoldable pub rebuilt_at : Array K → ℕ → F
  rebuilt_at x i =
      pick (ℕ_discrete i (f % A)) (row_symbol x f) (other_at x i ⊕ θ i (f % A) ⊗ row_symbol x (partner_node A i f))

module _ (A k f : ℕ) (s : ℕ → ℕ) where
  -- Row c of each other node of the lost group, row c of each chosen node, and the partner of the latter where
  -- it has one.
  pub data Planned : ℕ → ℕ → Type 0 where
    own : (i : ℕ) → i < A → i ≢ f % A → Planned (f % A) (partner_node A i f)
    chosen : (q : ℕ) → q < k → Planned (f % A) (s q)
    partner : (q : ℕ) → q < k → s q % A ≢ f % A → Planned (s q % A) (partner_node A (f % A) (s q))

module _ (K : Field) (A k f : ℕ) (s : ℕ → ℕ) where
  -- Two arrays that store the same at every planned place.
  abbrev pub Agree : Array K → Array K → Type 0
  Agree x y = (i j : ℕ) → Planned A k f s i j → x i j ≡ y i j

module _ (K : Field) (C : Code K) (f : ℕ) (s : ℕ → ℕ) where
  open K use {𝟘}
  open C use {A, k}

  -- An encoded array that is zero at every planned place but that of row a, node b, and not zero on the lost column:
  -- the other places do not tell it from the array of zeros.
  pub record Needed (a b : ℕ) : Type 0 where
    pub array : Array K
    pub encoded : Encoded K C array
    pub zero_off : (i j : ℕ) → Planned A k f s i j → (i ≢ a) ⊎ (j ≢ b) → array i j ≡ 𝟘
    pub at : ℕ
    pub below : at < A
    pub nonzero : array at f ≢ 𝟘
