-- The coupled code: each row of the base array is a word of the row code, and the rows are coupled.
--
-- symbols K k point d       : the base array of the data d, where d i q is the symbol of row i, data node q
-- unit_symbols K k point r q : the base array of the data that are 𝟙 at row r, node q and 𝟘 elsewhere
-- encode K c A k point d    : the array stored for the data d, with the coupling constants c
-- Code K                    : the numbers of a coupled code, with what they must satisfy
-- Encoded K C x             : the array x is encoded: some base array of the code C gives it
use Rattle.std.specs.Prelude.{◌≡◌, ◌≢◌, ℕ, ◌<◌}
use Rattle.std.proofs.Math.Decide.{ℕ_discrete}
use Rattle.algebra.specs.Field.{Field}
use Rattle.algebra.specs.Pick.{pick}
use Rattle.algebra.specs.Sum.{sum}
use Rattle.algebra.specs.Polynomial.{DistinctPoints}
use Rattle.algebra.specs.Weight.{weight}
use Rattle.algebra.specs.RowCode.{Codeword}
use Rattle.algebra.specs.Coupling.{Array, partner_node, stored, pair, factor}

module _ (K : Field) where
  infixl 70 ◌⊗◌
  open K use {carrier as F, 𝟘, mul as ◌⊗◌}

  -- Each row is the polynomial of degree below k through the data at the first k points, in Lagrange's form.
  unfoldable pub symbols : ℕ → (ℕ → F) → Array K → Array K
  symbols k point d i j = sum K k (λ q. d i q ⊗ weight K k point q (point j))

  -- In row r each symbol is the weight of node q there, in the other rows all are 𝟘.
  unfoldable pub unit_symbols : ℕ → (ℕ → F) → ℕ → ℕ → Array K
  unit_symbols k point r q i j = pick (ℕ_discrete i r) (weight K k point q (point j)) 𝟘

  -- The coupled base array of the data.
  unfoldable pub encode : (ℕ → ℕ → F) → ℕ → ℕ → (ℕ → F) → Array K → Array K
  encode c A k point d = stored K A (factor K c) (symbols k point d)

  -- The numbers of a coupled code: A rows, n nodes with their points, degree below k, the factor table θ.
  pub record Code : Type 0 where
    pub A : ℕ
    pub n : ℕ
    pub k : ℕ
    pub point : ℕ → F
    pub θ : ℕ → ℕ → F
    pub some_row : 0 < A
    pub partners : (i j : ℕ) → i < A → j < n → partner_node A i j < n
    pub distinct : DistinctPoints K n point
    pub diagonal : (i : ℕ) → θ i i ≡ 𝟘
    pub coupled : (i l : ℕ) → i < A → l < A → i ≢ l → θ i l ≢ 𝟘
    pub pairs : (i l : ℕ) → i < A → l < A → pair K θ i l ≢ 𝟘

module _ (K : Field) (C : Code K) where
  open C use {A, n, k, point, θ}

  -- The base array `symbols`, a word of the row code in each row, gives x.
  pub record Encoded (x : Array K) : Type 0 where
    pub symbols : Array K
    pub rows : (i : ℕ) → i < A → Codeword K n point k (symbols i)
    pub stores : (i j : ℕ) → i < A → j < n → x i j ≡ stored K A θ symbols i j
