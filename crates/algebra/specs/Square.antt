-- Matrices, given below m rows and w columns alone, and their elimination by row steps.
--
-- dot K w r v         : r 0 ⊗ v 0 ⊕ .. ⊕ r (w-1) ⊗ v (w-1)
-- unit K p            : the vector that is 𝟙 at p and 𝟘 elsewhere
-- Matrix K            : an entry for each row and column, row first
-- image K w M v       : the matrix M of w columns applied to the vector v
-- Solves K m w M b v  : M v = b in the first m rows
-- Kernel K m w M      : a vector other than zero that M takes to zero
-- Inverse K m w M T   : T is a left inverse of M, and the inverse where M is square
-- Step K m w p c M N  : N comes from M by adding c i times row p to each row i
-- Reached K m w M N T : N and T come from M and the unit matrix of m rows by the same row steps
-- Reduced K r m M     : the first r columns of M, of m ≥ r rows, are those of the unit matrix
-- multiplier K r M i  : the multiple of row r that a step adds to row i, to make column r that of the unit matrix
use Rattle.std.specs.Prelude.{◌≡◌, ◌≢◌, ℕ, ◌<◌}
use Rattle.std.proofs.Math.Decide.{ℕ_discrete}
use Rattle.algebra.specs.Field.{Field}
use Rattle.algebra.specs.Pick.{pick}
use Rattle.algebra.specs.Sum.{sum}

module _ (K : Field) where
  infixl 65 ◌⊕◌
  infixl 70 ◌⊗◌
  open K use {carrier as F, 𝟘, 𝟙, add as ◌⊕◌, mul as ◌⊗◌, inv}

  -- A row of coefficients applied to a vector.
  unfoldable pub dot : ℕ → (ℕ → F) → (ℕ → F) → F
  dot w r v = sum K w (λ j. r j ⊗ v j)

  -- The unit vector at p; row p of the unit matrix.
  abbrev pub unit : ℕ → ℕ → F
  unit p j = pick (ℕ_discrete j p) 𝟙 𝟘

  -- An entry for each row and column.
  abbrev pub Matrix : Type 0
  Matrix = ℕ → ℕ → F

  -- A matrix of w columns applied to a vector.
  abbrev pub image : ℕ → Matrix → (ℕ → F) → ℕ → F
  image w M v i = dot w (M i) v

  -- v solves M v = b.
  abbrev pub Solves : ℕ → ℕ → Matrix → (ℕ → F) → (ℕ → F) → Type 0
  Solves m w M b v = (i : ℕ) → i < m → image w M v i ≡ b i

  -- `vector` is not zero, and M takes it to zero.
  pub record Kernel (m w : ℕ) (M : Matrix) : Type 0 where
    pub vector : ℕ → F
    pub at : ℕ
    pub below : at < w
    pub nonzero : vector at ≢ 𝟘
    pub kills : Solves m w M (λ i. 𝟘) vector

  -- M v = b only for v = T b, and for it where M is square.
  pub record Inverse (m w : ℕ) (M T : Matrix) : Type 0 where
    pub unique : (b v : ℕ → F) → Solves m w M b v → (j : ℕ) → j < w → v j ≡ image m T b j
    pub solves : m ≡ w → (b : ℕ → F) → Solves m w M b (image m T b)

  -- To each row i is added c i times row p.
  abbrev pub Step : ℕ → ℕ → ℕ → (ℕ → F) → Matrix → Matrix → Type 0
  Step m w p c M N = (i j : ℕ) → i < m → j < w → N i j ≡ M i j ⊕ c i ⊗ M p j

  -- What row steps keep: M v = b exactly where N v = T b.
  pub record Reached (m w : ℕ) (M N T : Matrix) : Type 0 where
    pub forth : (b v : ℕ → F) → Solves m w M b v → Solves m w N (image m T b) v
    pub back : (b v : ℕ → F) → Solves m w N (image m T b) v → Solves m w M b v

  -- The first r columns of the m rows are those of the unit matrix.
  pub record Reduced (r m : ℕ) (M : Matrix) : Type 0 where
    pub one : (j : ℕ) → j < r → M j j ≡ 𝟙
    pub off : (i j : ℕ) → i < m → j < r → i ≢ j → M i j ≡ 𝟘

  -- What is added to row i, as a multiple of row r, so that column r has 1 in row r and 0 elsewhere.
  unfoldable pub multiplier : ℕ → Matrix → ℕ → F
  multiplier r M i = pick (ℕ_discrete i r) (𝟙 ⊕ inv (M r r)) (M i r ⊗ inv (M r r))
