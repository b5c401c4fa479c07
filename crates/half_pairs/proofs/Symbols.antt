-- The small system decides whether the named nodes are ambiguous, and gives the base symbols where they are not.
use mathlib.Core.Path.{◌≡◌, refl, sym, ap, ap₂, ◌∙◌}
use mathlib.Core.Bool.{Bool, true, false, not}
use mathlib.Core.List.{List, []}
use Prim.Native.Nat.{ℕ, ◌+◌, ◌*◌, ◌/◌, ◌%◌, ◌≤◌, ◌<◌}
use native.Mathlib.Nat.{mul_comm, mod-lt, div-lt_iff_lt-mul}
use native.Mathlib.Decide.{dec_lt}
use native.Mathlib.Omega.{arith}
use lib.Arith.{digits_div, digits_mod, digits_lt}
use lib.ListN.{length, get_or}
use borrow.Author.Tests.{le-ltb, ltb-true, not-true, not-false}
use Rattle.lists.proofs.Once.{once_each, once_has, rising_once}
use Rattle.lists.proofs.Each.{each_at}
use Rattle.ksets.specs.Sets.{Rising}
use Rattle.ksets.proofs.Ranked.{risen_length}
use Rattle.algebra.specs.Pick.{pick}
use Rattle.algebra.specs.Polynomial.{eval}
use Rattle.algebra.specs.RowCode.{Choice, Codeword}
use Rattle.algebra.specs.Coupling.{Array, stored}
use Rattle.algebra.specs.Square.{image, Kernel, Inverse, Matrix}
use Rattle.algebra.specs.HalfPairs.{Positions, Selected, opposite, half_factor, known, known_partner}
use Rattle.algebra.proofs.Field.{add-zero, zero-mul, mul-zero}
use Rattle.algebra.proofs.RowCode.{determined}
use Rattle.algebra.proofs.Coupling.{stored_ext}
use Rattle.algebra.proofs.HalfPairs.{named_symbol, partners_solve, Blank, blank_array}
use Rattle.document.specs.declared.Profile.{Profile}
use Rattle.document.specs.Profile.{Accepted}
use Rattle.document.specs.Places.{place}
use Rattle.document.specs.ByteField.{bytes, Byte, byte}
use Rattle.document.specs.Encoding.{byte_at, base_at, factor_at, laid_out, Data, encoded}
use Rattle.document.specs.Reading.{joined_columns, ambiguous}
use Rattle.document.proofs.Bounds.{A>0}
use Rattle.document.proofs.Arrays.{laid_byte, laid_data, encoded_stored}
use Rattle.document.proofs.Rows.{row_word, row_data}
use Rattle.document.proofs.Columns.{array, coupled_code, nodes_distinct, encoded_at}
use Rattle.document.proofs.Joined.{joined_byte, joined_data, joined_only}
use Rattle.document.proofs.Reading.{data_ext, TwoEncoded, two_ambiguous, ambiguous_two}
use Rattle.lists.specs.Positions.{position_in}
use Rattle.half_pairs.specs.HalfPairs.{named, is_named, partner_at, half_pairs, half_pair_at, system_at, joined_at}
use Rattle.half_pairs.proofs.Named.{named_choice, named_positions}
use Rattle.half_pairs.proofs.Selected.{sum_rising}

infixl 65 ◌⊕◌
infixl 70 ◌⊗◌
open bytes use {𝟘, add as ◌⊕◌, mul as ◌⊗◌}

module _ (p : Profile) (nodes : List ℕ) where
  open p use {n, k, a as A, s as S}

  -- how many half pairs there are
  abbrev pub U : ℕ
  U = length (half_pairs p nodes)

  -- what the strips give, for the algebra
  abbrev pub known_of : List ℕ → ℕ → ℕ → ℕ → Byte
  known_of x b = known bytes A k byte (factor_at p) (named nodes) (position_in nodes) (joined_at p nodes x b)

  abbrev pub known_partner_of : List ℕ → ℕ → ℕ → Byte
  known_partner_of x b = known_partner bytes A k byte (factor_at p) (named nodes) (position_in nodes) (joined_at p nodes x b)

  abbrev pub factor_of : ℕ → ℕ → Byte
  factor_of = half_factor bytes A k byte (factor_at p) (named nodes) (position_in nodes)

  -- the base symbol at the partner of strip z
  abbrev pub partner_symbol : Array bytes → ℕ → Byte
  partner_symbol a z = a (named nodes (z / A) % A) (opposite A (named nodes) (z % A) (z / A))

  module _ (acc : Accepted p) (rises : Rising n k nodes) where
    choice : Choice k n (named nodes)
    choice = named_choice rises

    positions : Positions k (named nodes) (position_in nodes)
    positions = named_positions rises (risen_length rises)

    -- the half pairs, by the test
    pub half_each : (e : ℕ) → e < U
        → (is_named k nodes (partner_at p nodes (half_pair_at p nodes e)).node.0 ≡ false) × (half_pair_at p nodes e < k * A)
    unfolding half_pairs
    half_each e h =
        let t = each_at 0 (once_each (k * A) _ _ (rising_once (k * A) _)) e h in
        (not-true _ t.0, t.1)

    selected : Selected bytes (k * A) U
        (λ y. position_in nodes (opposite A (named nodes) (y % A) (y / A)) < k) (half_pair_at p nodes)
    unfolding half_pairs
    selected = record {
      below = λ e h. (half_each e h).1;
      sums = λ f closed. sum_rising bytes (k * A) _ f (λ y l t. closed y l (ltb-true _ _ (not-false _ t)));
    }

    -- each strip whose partner is not named is one of them
    pub half_has : (z : ℕ) → z < k * A → (position_in nodes (opposite A (named nodes) (z % A) (z / A)) < k → ⊥)
        → (e : ℕ) × (e < U) × (half_pair_at p nodes e ≡ z)
    unfolding half_pairs
    half_has z h d =
        let far : k ≤ position_in nodes (opposite A (named nodes) (z % A) (z / A)) = omega arith in
        once_has (k * A) _ _ (rising_once (k * A) _) z h (ap not (le-ltb _ _ far))

    -- ---- data d whose columns on the named nodes are x
    module _ (d x : List ℕ) (columns : joined_columns p nodes (encoded p d) ≡ x) (b : ℕ) (l : b < S) where
      abbrev symbols : Array bytes
      symbols = array (base_at p d) b

      stores : (i q : ℕ) → i < A → q < k
          → joined_at p nodes x b i (named nodes q) ≡ stored bytes A (factor_at p) symbols i (named nodes q)
      stores i q r h =
          ap (λ (m : ℕ). byte (get_or x ((m * A + i) * S + b) 0)) (positions.there q h)
          ∙ ap (λ (y : List ℕ). byte (get_or y ((q * A + i) * S + b) 0)) (sym columns)
          ∙ joined_byte p (encoded_stored p d) rises (q * A + i) b (digits_lt h r) l
          ∙ ap₂ (λ (m r : ℕ). byte_at p (encoded p d) b (place (named nodes m) r)) (digits_div q r) (digits_mod q r)
          ∙ encoded_at p acc d b l i (named nodes q) r (choice.below q h)

      pub solved : {T : Matrix bytes} → Inverse bytes U U (system_at p nodes) T → (e : ℕ) → e < U
          → partner_symbol symbols (half_pair_at p nodes e)
          ≡ image bytes U T (λ e. known_partner_of x b (half_pair_at p nodes e)) e
      solved I =
          I.unique _ _
          (partners_solve bytes (coupled_code p acc) (named nodes) (position_in nodes) choice positions U
          (half_pair_at p nodes) selected symbols (joined_at p nodes x b) (λ i r. row_word p d b i) stores)

      pub symbol_is : (i q : ℕ) → i < A → q < k
          → symbols i (named nodes q)
          ≡ known_of x b i q ⊕ factor_of i q ⊗ symbols (named nodes q % A) (opposite A (named nodes) i q)
      symbol_is =
          named_symbol bytes (coupled_code p acc) (named nodes) (position_in nodes) choice positions symbols
          (joined_at p nodes x b) (λ i r. row_word p d b i) stores

    -- ---- the system has an inverse: data are fixed by their columns on the named nodes
    module _ {T : Matrix bytes} (I : Inverse bytes U U (system_at p nodes) T) (d c x : List ℕ)
        (D : joined_columns p nodes (encoded p d) ≡ x) (C : joined_columns p nodes (encoded p c) ≡ x)
        (b : ℕ) (l : b < S) where
      abbrev d_of : Array bytes
      d_of = array (base_at p d) b

      abbrev c_of : Array bytes
      c_of = array (base_at p c) b

      -- the partner of a strip, or its factor is zero
      same_part : (i q : ℕ) → i < A → q < k
          → factor_of i q ⊗ d_of (named nodes q % A) (opposite A (named nodes) i q)
          ≡ factor_of i q ⊗ c_of (named nodes q % A) (opposite A (named nodes) i q)
      unfolding half_factor
      same_part i q r h = go (dec_lt (position_in nodes (opposite A (named nodes) i q)) k)
        where
          u : Byte
          u = d_of (named nodes q % A) (opposite A (named nodes) i q)

          v : Byte
          v = c_of (named nodes q % A) (opposite A (named nodes) i q)

          f : Byte
          f = factor_at p i (named nodes q % A)

          strip : ℕ
          strip = q * A + i

          row : strip % A ≡ i
          row = digits_mod q r

          node : strip / A ≡ q
          node = digits_div q r

          both : (e : ℕ) × (e < U) × (half_pair_at p nodes e ≡ strip) → u ≡ v
          both (e, below, at) =
              rw (at, row, node) at (solved d x D b l I e below ∙ sym (solved c x C b l I e below))

          go : (t : Dec (position_in nodes (opposite A (named nodes) i q) < k)) → pick t 𝟘 f ⊗ u ≡ pick t 𝟘 f ⊗ v
          go (yes t) = zero-mul bytes u ∙ sym (zero-mul bytes v)
          go (no t) =
              ap (λ (y : Byte). f ⊗ y)
              (both (half_has strip (digits_lt h r) (rw (row, node) t)))

      same_symbols : (i j : ℕ) → i < A → j < n → d_of i j ≡ c_of i j
      same_symbols i j r h =
          determined bytes n byte (nodes_distinct p acc) k (named nodes) choice (row_word p d b i) (row_word p c b i)
          (λ q m. symbol_is d x D b l i q r m
          ∙ ap (λ (y : Byte). known_of x b i q ⊕ y) (same_part i q r m)
          ∙ sym (symbol_is c x C b l i q r m))
          j h

    pub data_fixed : {T : Matrix bytes} → Inverse bytes U U (system_at p nodes) T → (d c : List ℕ) → Data p d → Data p c
        → joined_columns p nodes (encoded p d) ≡ joined_columns p nodes (encoded p c) → d ≡ c
    data_fixed I d c D C alike = data_ext p d c D C at
      where
        at : (b e : ℕ) → b < S → e < k * A
            → byte_at p d b (place (e % k) (e / k)) ≡ byte_at p c b (place (e % k) (e / k))
        at b e l h =
            let j<k : e % k < k = mod-lt e acc.shape.some_data in
            let i<A : e / k < A = (div-lt_iff_lt-mul acc.shape.some_data).1 (omega (arith, mul_comm k A)) in
            sym (row_data p d b (e / k) acc (e % k) j<k)
            ∙ same_symbols I d c _ alike refl b l (e / k) (e % k) i<A (omega (arith, acc.shape.some_parity))
            ∙ row_data p c b (e / k) acc (e % k) j<k

    -- So the nodes are not ambiguous.
    pub inverse_clear : {T : Matrix bytes} → Inverse bytes U U (system_at p nodes) T → ambiguous p nodes ≡ false
    inverse_clear I = go (ambiguous p nodes) refl
      where
        go : (v : Bool) → ambiguous p nodes ≡ v → v ≡ false
        go false e = refl
        go true e =
            let two : TwoEncoded p nodes = ambiguous_two p acc nodes rises e in
            absurd (two.differ (data_fixed I _ _ two.first_data two.second_data two.alike))

    -- ---- the system takes a vector other than zero to zero
    -- data laid out from a base array
    abbrev data_of : Array bytes → List ℕ
    data_of a = laid_out p k (λ b q. a q.row.0 q.node.0)

    -- have it as their base symbols
    laid_base : (a : Array bytes) → ((i : ℕ) → i < A → Codeword bytes n byte k (a i))
        → (b i j : ℕ) → b < S → i < A → j < n → base_at p (data_of a) b (place j i) ≡ a i j
    laid_base a word b i j l r h =
        determined bytes n byte (nodes_distinct p acc) k (λ q. q) first (row_word p (data_of a) b i) (word i r)
        (λ q m. row_data p (data_of a) b i acc q m ∙ laid_byte p k (λ b q. a q.row.0 q.node.0) b q i l m r)
        j h
      where
        first : Choice k n (λ q. q)
        first = record { below = λ q b. omega (arith, acc.shape.some_parity); apart = λ i j b c e. omega arith }

    laid_stored : (a : Array bytes) → ((i : ℕ) → i < A → Codeword bytes n byte k (a i))
        → (b i j : ℕ) → b < S → i < A → j < n
        → byte_at p (encoded p (data_of a)) b (place j i) ≡ stored bytes A (factor_at p) a i j
    laid_stored a word b i j l r h =
        encoded_at p acc (data_of a) b l i j r h
        ∙ stored_ext bytes A (factor_at p) (array (base_at p (data_of a)) b) a i j (laid_base a word b i j l r h)
        (ap (λ (y : Byte). factor_at p i (j % A) ⊗ y)
        (laid_base a word b (j % A) _ l (mod-lt j (A>0 p acc)) ((coupled_code p acc).partners i j r h)))

    -- the base array of zeros
    zeros : Array bytes
    zeros i j = 𝟘

    zeros_word : (i : ℕ) → i < A → Codeword bytes n byte k (zeros i)
    unfolding zeros eval
    zeros_word i r = record {
      polynomial = λ z. 𝟘;
      poly = record { coefficients = []; degree = omega arith; value = λ z. refl };
      at = λ j h. refl;
    }

    zeros_stored : (i j : ℕ) → stored bytes A (factor_at p) zeros i j ≡ 𝟘
    unfolding zeros stored
    zeros_stored i j = ap (λ (y : Byte). 𝟘 ⊕ y) (mul-zero bytes _) ∙ add-zero bytes 𝟘

    pub kernel_two : Kernel bytes U U (system_at p nodes) → TwoEncoded p nodes
    unfolding zeros
    kernel_two null = record {
      first = data_of a;
      second = data_of zeros;
      first_data = laid_data p _;
      second_data = laid_data p _;
      differ = λ same. blank.nonzero
          (sym (laid_base a blank.word 0 blank.row blank.node some blank.row_lt blank.node_lt)
          ∙ ap (λ (d : List ℕ). base_at p d 0 (place blank.node blank.row)) same
          ∙ laid_base zeros zeros_word 0 blank.row blank.node some blank.row_lt blank.node_lt);
      alike = joined_only p (encoded_stored p _) rises _ (joined_data p (encoded_stored p _) rises) (λ z b h l.
          let r : z % A < A = mod-lt z (A>0 p acc) in
          let m : z / A < k = (div-lt_iff_lt-mul (A>0 p acc)).1 h in
          laid_stored a blank.word b (z % A) (named nodes (z / A)) l r (choice.below (z / A) m)
          ∙ blank.blank (z % A) (z / A) r m ∙ sym (zeros_stored (z % A) (named nodes (z / A)))
          ∙ sym (laid_stored zeros zeros_word b (z % A) (named nodes (z / A)) l r (choice.below (z / A) m))
          ∙ sym (joined_byte p (encoded_stored p _) rises z b h l));
    }
      where
        blank : Blank bytes (coupled_code p acc) (named nodes) (position_in nodes) choice positions U
            (half_pair_at p nodes) selected
        blank =
            blank_array bytes (coupled_code p acc) (named nodes) (position_in nodes) choice positions U
            (half_pair_at p nodes) selected null

        a : Array bytes
        a = blank.symbols

        some : 0 < S
        some = acc.some_bytes

    -- So the nodes are ambiguous.
    pub kernel_ambiguous : Kernel bytes U U (system_at p nodes) → ambiguous p nodes ≡ true
    kernel_ambiguous null = two_ambiguous p acc nodes rises (kernel_two null)
