-- The partners of the half pairs solve the system (`partners_solve`), and the other base symbols follow from
-- them (`named_symbol`). A vector other than zero that the system takes to zero is a base array other than zero with
-- nothing stored on the named nodes (`blank_array`).
use mathlib.Core.Path.{◌≡◌, refl, sym, ap, ap₂, ◌∙◌}
use mathlib.Core.Logic.{◌≢◌}
use Prim.Native.Nat.{ℕ, ◌+◌, ◌*◌, ◌/◌, ◌%◌, ◌<◌}
use native.Mathlib.Nat.{mod-lt, div-lt_iff_lt-mul, div-add-mod'}
use native.Mathlib.Decide.{ℕ_discrete, dec_lt}
use native.Mathlib.Omega.{arith}
use lib.Arith.{digits_div, digits_mod, digits_lt}
use Rattle.algebra.specs.Field.{Field}
use Rattle.algebra.specs.Pick.{pick}
use Rattle.algebra.specs.Sum.{sum}
use Rattle.algebra.specs.RowCode.{Choice, Codeword}
use Rattle.algebra.specs.Coupling.{Array, partner_node, stored, base}
use Rattle.algebra.specs.Encoding.{Code}
use Rattle.algebra.specs.Square.{dot, unit, Solves, Kernel}
use Rattle.algebra.specs.HalfPairs.{
  Positions,
  opposite,
  Selected,
  weight_at,
  half_factor,
  known,
  known_partner,
  partner_coefficient,
  system,
}
use Rattle.algebra.proofs.Field.{ring, add-zero, zero-add, add_self, zero-mul, mul-zero}
use Rattle.algebra.proofs.Pick.{pick_yes, pick_no}
use Rattle.algebra.proofs.Sum.{sum_ext, sum_add, sum_one, sum_grid}
use Rattle.algebra.proofs.Square.{dot_ext, dot_comm, dot_add_right, dot_unit, unit_at_lem, unit_off}
use Rattle.algebra.proofs.RowCode.{Prescribed, recover, prescribe}
use Rattle.algebra.proofs.Coupling.{partner_partner, base_ext, base_stored}

module _ (K : Field) (C : Code K) (s position : ℕ → ℕ)
    (choice : Choice C.k C.n s) (positions : Positions C.k s position) where
  infixl 65 ◌⊕◌
  infixl 70 ◌⊗◌
  open K use {carrier as F, 𝟘, 𝟙, add as ◌⊕◌, mul as ◌⊗◌}
  open C use {A, n, k, point, θ, some_row, partners, distinct, pairs}

  -- The local column of named node q.
  abbrev local : ℕ → ℕ
  local q = s q % A

  -- The partner's node of row i, named node q.
  abbrev across : ℕ → ℕ → ℕ
  across i q = opposite A s i q

  -- Whether it is named.
  abbrev named? : (i q : ℕ) → Dec (position (across i q) < k)
  named? i q = dec_lt (position (across i q)) k

  abbrev factor_of : ℕ → ℕ → F
  factor_of i q = half_factor K A k point θ s position i q

  abbrev known_at : Array K → ℕ → ℕ → F
  known_at x i q = known K A k point θ s position x i q

  abbrev weight_of : ℕ → ℕ → F
  weight_of q j = weight_at K k point s q j

  abbrev coefficient : ℕ → ℕ → F
  coefficient = partner_coefficient K A k point θ s position

  -- The base symbol at the partner of strip z.
  abbrev pub partner_of : Array K → ℕ → F
  partner_of a z = a (local (z / A)) (across (z % A) (z / A))

  local_lt : (q : ℕ) → local q < A
  local_lt q = mod-lt (s q) some_row

  across_lt : (i q : ℕ) → i < A → q < k → across i q < n
  across_lt i q l h = partners i (s q) l (choice.below q h)

  strip_row : (z : ℕ) → z % A < A
  strip_row z = mod-lt z some_row

  strip_node : (z : ℕ) → z < k * A → z / A < k
  strip_node z h = (div-lt_iff_lt-mul some_row).1 h

  -- The factor of a partner that is named, and of one that is not.
  factor_named : (i q : ℕ) → position (across i q) < k → factor_of i q ≡ 𝟘
  unfolding half_factor
  factor_named i q = pick_yes (named? i q) 𝟘 (θ i (local q))

  factor_half : (i q : ℕ) → (position (across i q) < k → ⊥) → factor_of i q ≡ θ i (local q)
  unfolding half_factor
  factor_half i q = pick_no (named? i q) 𝟘 (θ i (local q))

  -- What the half pairs of a row give, summed with the weights at the partner of strip z, by the coefficients.
  coefficient_sum : (f : ℕ → ℕ → F) (z : ℕ)
      → sum K k (λ q. factor_of (local (z / A)) q ⊗ f (local (z / A)) q ⊗ weight_of q (across (z % A) (z / A)))
      ≡ dot K (k * A) (coefficient z) (λ y. f (y % A) (y / A))
  unfolding dot partner_coefficient
  coefficient_sum f z = sym (sum_grid K k A term ∙ sum_ext K k (λ q h. one q))
    where
      l : ℕ
      l = local (z / A)

      w : ℕ → F
      w q = weight_of q (across (z % A) (z / A))

      term : ℕ → ℕ → F
      term q r = pick (ℕ_discrete r l) (factor_of r q ⊗ w q) 𝟘 ⊗ f r q

      swap : (a b c : F) → a ⊗ b ⊗ c ≡ a ⊗ c ⊗ b
      swap a b c = simp ring

      one : (q : ℕ) → sum K A (λ r. term q r) ≡ factor_of l q ⊗ f l q ⊗ w q
      one q =
          sum_one K A l (λ r. term q r) (local_lt (z / A))
          (λ r h d. ap (λ c. c ⊗ f r q) (pick_no (ℕ_discrete r l) _ _ d) ∙ zero-mul K (f r q))
          ∙ ap (λ c. c ⊗ f l q) (pick_yes (ℕ_discrete l l) _ _ refl) ∙ swap (factor_of l q) (w q) (f l q)

  -- ---- a base array a, of which x holds what is stored on the named nodes
  module _ (a x : Array K) (word : (i : ℕ) → i < A → Codeword K n point k (a i))
      (stores : (i q : ℕ) → i < A → q < k → x i (s q) ≡ stored K A θ a i (s q)) where
    -- A base symbol on a named node is what the strips give of it, and a multiple of its partner where that is not
    -- named.
    pub named_symbol : (i q : ℕ) → i < A → q < k
        → a i (s q) ≡ known_at x i q ⊕ factor_of i q ⊗ a (local q) (across i q)
    unfolding half_factor known stored
    named_symbol i q l h = go (named? i q)
      where
        other : F
        other = a (local q) (across i q)

        cancel : (u v : F) → u ≡ u ⊕ v ⊕ v
        cancel u v = simp ring

        Symbol : Dec (position (across i q) < k) → Type 0
        Symbol d = a i (s q) ≡ pick d (base K A θ x i (s q)) (x i (s q)) ⊕ pick d 𝟘 (θ i (local q)) ⊗ other

        same : position (across i q) < k → x (local q) (across i q) ≡ stored K A θ a (local q) (across i q)
        same named =
            ap (x (local q)) (sym (positions.back (across i q) named))
            ∙ stores (local q) (position (across i q)) (local_lt q) named
            ∙ ap (stored K A θ a (local q)) (positions.back (across i q) named)

        go : (d : Dec (position (across i q) < k)) → Symbol d
        go (yes named) =
            sym (base_stored K A θ some_row pairs a i (s q) l)
            ∙ base_ext K A θ (stored K A θ a) x i (s q) (sym (stores i q l h))
            (ap (λ y. θ i (local q) ⊗ y) (sym (same named)))
            ∙ sym (add-zero K (base K A θ x i (s q)))
            ∙ ap (λ y. base K A θ x i (s q) ⊕ y) (sym (zero-mul K other))
        go (no d) =
            cancel (a i (s q)) (θ i (local q) ⊗ other) ∙ ap (λ y. y ⊕ θ i (local q) ⊗ other) (sym (stores i q l h))

    -- So each partner is what the strips give of it, and the partner_coefficient applied to the partners.
    partner_sum : (z : ℕ) → z < k * A
        → partner_of a z ≡ known_partner K A k point θ s position x z ⊕ dot K (k * A) (coefficient z) (partner_of a)
    unfolding known_partner
    partner_sum z h =
        recover K n point distinct k s choice (word l (local_lt (z / A))) (across (z % A) (z / A))
        (across_lt (z % A) (z / A) (strip_row z) (strip_node z h))
        ∙ sum_ext K k
        (λ q b. ap (λ y. y ⊗ w q) (named_symbol l q (local_lt (z / A)) b) ∙ into (known_at x l q) (f q) (w q))
        ∙ sum_add K k (λ q. known_at x l q ⊗ w q) (λ q. f q ⊗ w q)
        ∙ ap (λ y. sum K k (λ q. known_at x l q ⊗ w q) ⊕ y) (coefficient_sum (λ i q. a (local q) (across i q)) z)
      where
        l : ℕ
        l = local (z / A)

        w : ℕ → F
        w q = weight_of q (across (z % A) (z / A))

        f : ℕ → F
        f q = factor_of l q ⊗ a (local q) (across l q)

        into : (u v c : F) → (u ⊕ v) ⊗ c ≡ u ⊗ c ⊕ v ⊗ c
        into u v c = simp ring

  -- ---- the half pairs, o 0 .. o (U-1)
  module _ (U : ℕ) (o : ℕ → ℕ)
      (selected : Selected K (k * A) U (λ y. position (across (y % A) (y / A)) < k) o) where
    abbrev small : ℕ → ℕ → F
    small = system K A k point θ s position o

    -- A paired strip has no part in the partner_coefficient.
    coefficient_named : (z y : ℕ) → position (across (y % A) (y / A)) < k → coefficient z y ≡ 𝟘
    unfolding partner_coefficient
    coefficient_named z y named = go (ℕ_discrete (y % A) (local (z / A)))
      where
        w : F
        w = weight_of (y / A) (across (z % A) (z / A))

        go : (d : Dec (y % A ≡ local (z / A))) → pick d (factor_of (y % A) (y / A) ⊗ w) 𝟘 ≡ 𝟘
        go (yes e) = ap (λ c. c ⊗ w) (factor_named (y % A) (y / A) named) ∙ zero-mul K w
        go (no e) = refl

    -- So it is a sum over the half pairs.
    coefficient_small : (z : ℕ) (u : ℕ → F)
        → dot K (k * A) (coefficient z) u ≡ dot K U (λ e. coefficient z (o e)) (λ e. u (o e))
    unfolding dot
    coefficient_small z u =
        selected.sums (λ y. coefficient z y ⊗ u y)
        (λ y h named. ap (λ c. c ⊗ u y) (coefficient_named z y named) ∙ zero-mul K (u y))

    -- The system matrix is the partner_coefficient beside the unit matrix.
    small_times : (v : ℕ → F) (e : ℕ) → e < U → dot K U (small e) v ≡ v e ⊕ dot K U (λ f. coefficient (o e) (o f)) v
    unfolding system
    small_times v e h =
        dot_comm K U (small e) v ∙ dot_add_right K U v (unit K e) (λ f. coefficient (o e) (o f))
        ∙ ap₂ ◌⊕◌
        (dot_comm K U v (unit K e)
        ∙ dot_unit K U e (unit K e) v h (unit_at_lem K e) (λ f l d. unit_off K e f d))
        (dot_comm K U v (λ f. coefficient (o e) (o f)))

    -- What differs by a sum is that sum.
    apart_sum : (u v w : F) → u ≡ v ⊕ w → u ⊕ w ≡ v
    apart_sum u v w e = ap (λ y. y ⊕ w) e ∙ (let t : v ⊕ w ⊕ w ≡ v = simp ring in t)

    -- The partners of the half pairs solve the system.
    pub partners_solve : (a x : Array K) → ((i : ℕ) → i < A → Codeword K n point k (a i))
        → ((i q : ℕ) → i < A → q < k → x i (s q) ≡ stored K A θ a i (s q))
        → Solves K U U small (λ e. known_partner K A k point θ s position x (o e)) (λ e. partner_of a (o e))
    partners_solve a x word stores e h =
        small_times (λ e. partner_of a (o e)) e h
        ∙ apart_sum _ _ _
        (partner_sum a x word stores (o e) (selected.below e h)
        ∙ ap (λ y. known_partner K A k point θ s position x (o e) ⊕ y) (coefficient_small (o e) (partner_of a)))

    -- A base array that is not zero, with nothing stored on the named nodes.
    pub record Blank : Type 0 where
      pub symbols : Array K
      pub word : (i : ℕ) → i < A → Codeword K n point k (symbols i)
      pub blank : (i q : ℕ) → i < A → q < k → stored K A θ symbols i (s q) ≡ 𝟘
      pub row : ℕ
      pub node : ℕ
      pub row_lt : row < A
      pub node_lt : node < n
      pub nonzero : symbols row node ≢ 𝟘

    module _ (null : Kernel K U U small) where
      abbrev v : ℕ → F
      v = null.vector

      -- the partner of each strip, by the partner_coefficient
      abbrev u : ℕ → F
      u z = dot K U (λ f. coefficient z (o f)) v

      -- at the half pairs it is the vector
      u_open : (e : ℕ) → e < U → u (o e) ≡ v e
      u_open e h = both (v e) (u (o e)) (sym (small_times v e h) ∙ null.kills e h)
        where
          both : (a b : F) → a ⊕ b ≡ 𝟘 → b ≡ a
          both a b z = let t : b ≡ a ⊕ b ⊕ a = simp ring in t ∙ ap (λ y. y ⊕ a) z ∙ zero-add K a

      u_sum : (z : ℕ) → dot K (k * A) (coefficient z) u ≡ u z
      u_sum z = coefficient_small z u ∙ dot_ext K U (λ f l. refl) (λ f l. u_open f l)

      -- what the array has on the named nodes
      abbrev chosen : ℕ → ℕ → F
      chosen i q = factor_of i q ⊗ u (q * A + i)

      abbrev rows : (i : ℕ) → Prescribed K n point distinct k k s (chosen i)
      rows i = prescribe K n point distinct k k s (omega arith) choice (chosen i)

      abbrev made : Array K
      made i = (rows i).0

      made_at : (i q : ℕ) → q < k → made i (s q) ≡ chosen i q
      made_at i q h = (rows i).2 q h

      -- the partner of row i, named node q
      made_partner : (i q : ℕ) → i < A → q < k → made (local q) (across i q) ≡ u (q * A + i)
      made_partner i q l h =
          ap₂ (λ r m. made (local m) (across r m)) (sym (digits_mod q l)) (sym (digits_div q l)) ∙ at (q * A + i) (digits_lt h l)
        where
          at : (z : ℕ) → z < k * A → partner_of made z ≡ u z
          at z m =
              recover K n point distinct k s choice (rows (local (z / A))).1 (across (z % A) (z / A))
              (across_lt (z % A) (z / A) (strip_row z) (strip_node z m))
              ∙ sum_ext K k (λ q b. ap (λ y. y ⊗ weight_of q (across (z % A) (z / A))) (made_at (local (z / A)) q b))
              ∙ coefficient_sum (λ i q. u (q * A + i)) z
              ∙ dot_ext K (k * A) (λ y l. refl) (λ y l. ap u (div-add-mod' y A))
              ∙ u_sum z

      -- where the partner is named, nothing is stored there
      partner_blank : (i q : ℕ) → i < A → q < k → position (across i q) < k → u (q * A + i) ≡ 𝟘
      partner_blank i q l h named =
          sym (made_partner i q l h) ∙ ap (made (local q)) (sym there) ∙ made_at (local q) m named
          ∙ ap (λ c. c ⊗ u (m * A + local q)) (factor_named (local q) m back) ∙ zero-mul K _
        where
          m : ℕ
          m = position (across i q)

          there : s m ≡ across i q
          there = positions.back (across i q) named

          same : across (local q) m ≡ s q
          same = ap (partner_node A (local q)) there ∙ partner_partner A i (s q) l

          back : position (across (local q) m) < k
          back = rw (same, positions.there q h) h

      made_blank : (i q : ℕ) → i < A → q < k → stored K A θ made i (s q) ≡ 𝟘
      unfolding stored
      made_blank i q l h =
          ap₂ (λ y w. y ⊕ θ i (local q) ⊗ w) (made_at i q h) (made_partner i q l h) ∙ go (named? i q)
        where
          t : F
          t = u (q * A + i)

          go : Dec (position (across i q) < k) → factor_of i q ⊗ t ⊕ θ i (local q) ⊗ t ≡ 𝟘
          go (yes named) =
              ap₂ (λ c y. c ⊗ t ⊕ θ i (local q) ⊗ y) (factor_named i q named) (partner_blank i q l h named)
              ∙ ap₂ ◌⊕◌ (zero-mul K t) (mul-zero K (θ i (local q))) ∙ add-zero K 𝟘
          go (no d) = ap (λ c. c ⊗ t ⊕ θ i (local q) ⊗ t) (factor_half i q d) ∙ add_self K _

      -- The base array of the vector.
      pub blank_array : Blank
      blank_array = record {
        symbols = made;
        word = λ i l. (rows i).1;
        blank = made_blank;
        row = local (z / A);
        node = across (z % A) (z / A);
        row_lt = local_lt (z / A);
        node_lt = across_lt (z % A) (z / A) (strip_row z) (strip_node z z_lt);
        nonzero = λ e. null.nonzero (sym (u_open null.at null.below) ∙ sym at ∙ e);
      }
        where
          z : ℕ
          z = o null.at

          z_lt : z < k * A
          z_lt = selected.below null.at null.below

          at : made (local (z / A)) (across (z % A) (z / A)) ≡ u z
          at =
              made_partner (z % A) (z / A) (strip_row z) (strip_node z z_lt) ∙ ap u (div-add-mod' z A)
