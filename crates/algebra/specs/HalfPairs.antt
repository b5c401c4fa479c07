-- Reading from k named nodes by pairs. Where both strips of a pair are read, they give both base symbols; a strip on
-- the diagonal is its own partner. A half pair is a strip that is read while its partner, on a node that is not named,
-- is not. For a base array a the two equations are
--
--   a(i, s q)       = known(i,q) + half_factor(i,q) · a(the partner of row i, node s q)
--   a(partner of z) = known_partner(z) + the sum over the strips y of partner_coefficient(z,y) · a(partner of y)
--
-- In the second one only half pairs y count, so those of the half pairs z are as many equations as there are unknowns.
--
-- s                            : the named nodes, s 0 .. s (k-1)
-- position j                   : where node j stands among them; k or more where it does not
-- z, y                         : strips read, counted node after node: row z % A of named node z / A
-- ..                           : A k point θ s position
-- Positions k s position       : `position` is what it is called here
-- opposite A s i q             : the node of the partner of row i, named node q
-- Selected K m U Closed o      : a sum over the numbers below m is that over o 0 .. o (U-1), if each closed number
--                                gives 𝟘
-- weight_at K k point s q j     : the weight of named node q at node j
-- half_factor K .. i q          : the factor of the partner of row i, named node q; 𝟘 where the partner is named
-- known K .. x i q             : what the strips x give of the base symbol at row i, named node q: all of it where the
--                                partner is named, otherwise the stored symbol
-- known_partner K .. x z        : the sum of these over the row of the partner of strip z, with the weights at its node
-- partner_coefficient K .. z y  : the coefficient of the partner of strip y in the equation for the partner of strip z
-- system K .. o                : the matrix of the equations for the half pairs o 0, o 1, ..
use Rattle.std.specs.Prelude.{◌≡◌, ℕ, ◌/◌, ◌%◌, ◌<◌}
use Rattle.std.proofs.Math.Decide.{ℕ_discrete, dec_lt}
use Rattle.algebra.specs.Field.{Field}
use Rattle.algebra.specs.Pick.{pick}
use Rattle.algebra.specs.Sum.{sum}
use Rattle.algebra.specs.Weight.{weight}
use Rattle.algebra.specs.Coupling.{Array, partner_node, base}
use Rattle.algebra.specs.Square.{unit, Matrix}

pub record Positions (k : ℕ) (s position : ℕ → ℕ) : Type 0 where
  pub there : (q : ℕ) → q < k → position (s q) ≡ q
  pub back : (j : ℕ) → position j < k → s (position j) ≡ j

abbrev pub opposite : ℕ → (ℕ → ℕ) → ℕ → ℕ → ℕ
opposite A s i q = partner_node A i (s q)

module _ (K : Field) where
  infixl 65 ◌⊕◌
  infixl 70 ◌⊗◌
  open K use {carrier as F, 𝟘, add as ◌⊕◌, mul as ◌⊗◌}

  -- All that is asked of the list of the half pairs: to sum over them is to sum over all strips.
  pub record Selected (m U : ℕ) (Closed : ℕ → Type 0) (o : ℕ → ℕ) : Type 0 where
    pub below : (e : ℕ) → e < U → o e < m
    pub sums : (f : ℕ → F) → ((y : ℕ) → y < m → Closed y → f y ≡ 𝟘) → sum K m f ≡ sum K U (λ e. f (o e))

  abbrev pub weight_at : ℕ → (ℕ → F) → (ℕ → ℕ) → ℕ → ℕ → F
  weight_at k point s q j = weight K k (λ m. point (s m)) q (point j)

  module _ (A k : ℕ) (point : ℕ → F) (θ : ℕ → ℕ → F) (s position : ℕ → ℕ) where
    -- Only where the partner is not read is it still in what is known of the symbol.
    unfoldable pub half_factor : ℕ → ℕ → F
    half_factor i q = pick (dec_lt (position (opposite A s i q)) k) 𝟘 (θ i (s q % A))

    -- Where both strips are read the pair is taken apart.
    unfoldable pub known : Array K → ℕ → ℕ → F
    known x i q = pick (dec_lt (position (opposite A s i q)) k) (base K A θ x i (s q)) (x i (s q))

    unfoldable pub known_partner : Array K → ℕ → F
    known_partner x z =
        sum K k (λ q. known x (s (z / A) % A) q ⊗ weight_at k point s q (opposite A s (z % A) (z / A)))

    -- The row of the partner of z is a word of the row code: strips of other rows have no part in it.
    unfoldable pub partner_coefficient : Matrix K
    partner_coefficient z y =
        pick (ℕ_discrete (y % A) (s (z / A) % A))
        (half_factor (y % A) (y / A) ⊗ weight_at k point s (y / A) (opposite A s (z % A) (z / A))) 𝟘

    -- The unknowns brought to one side; adding is subtracting.
    unfoldable pub system : (ℕ → ℕ) → Matrix K
    system o e f = unit K e f ⊕ partner_coefficient (o e) (o f)
