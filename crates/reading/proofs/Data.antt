-- The data that the steps of reading back come to are those of document 01: at each byte offset the strips hold first
-- what is known, then the base symbols of the named nodes, and the columns made of them the data symbols.
use mathlib.Core.Path.{◌≡◌, refl, sym, ap, ap₂, ◌∙◌}
use mathlib.Core.Bool.{Bool, true, false, cond}
use mathlib.Core.List.{List}
use Prim.Native.Nat.{ℕ, zero, suc, ◌+◌, ◌-◌, ◌*◌, ◌/◌, ◌%◌, ◌≤◌, ◌<◌}
use native.Mathlib.Nat.{add-mul, mul_assoc, zero-add, mod-lt, div-lt_iff_lt-mul, div-add-mod'}
use native.Mathlib.Decide.{ℕ_discrete, dec_lt}
use native.Mathlib.Omega.{arith}
use lib.Arith.{digits_div, digits_mod, digits_lt}
use lib.ListN.{length, get_or, take, length-take, get_or-eq_default}
use lib.Seq.{get_or-take}
use borrow.Author.Tests.{ltb-true, ltb-false}
use Rattle.lists.specs.Each.{Distinct}
use Rattle.lists.proofs.Listed.{listed_length, listed_at}
use Rattle.lists.proofs.Patched.{patched_length, patched_in, patched_out}
use Rattle.lists.proofs.Each.{distinct_at}
use Rattle.lists.proofs.Once.{once_distinct, rising_once}
use Rattle.ksets.specs.Sets.{Rising}
use Rattle.ksets.proofs.Ranked.{risen_length}
use Rattle.gf256.specs.Field as G
use Rattle.algebra.specs.Pick.{pick}
use Rattle.algebra.specs.Sum.{sum}
use Rattle.algebra.specs.Square.{dot, Inverse}
use Rattle.algebra.specs.HalfPairs.{opposite, weight_at, known_partner, half_factor}
use Rattle.algebra.proofs.Field.{add-zero, zero-mul, mul-zero, mul_comm}
use Rattle.algebra.proofs.Pick.{pick_yes, pick_no}
use Rattle.algebra.proofs.Sum.{sum_ext, sum_zero, sum_one, sum_plus}
use Rattle.algebra.proofs.RowCode.{recover}
use Rattle.strips.specs.Strips.{sum_of, combination_of, strip_at, added_scaled}
use Rattle.square.specs.declared.Line.{Line}
use Rattle.square.specs.Steps.{line_at, entry}
use Rattle.document.specs.declared.Profile.{Profile}
use Rattle.document.specs.Profile.{Accepted}
use Rattle.document.specs.Places.{place}
use Rattle.document.specs.ByteField.{bytes, Byte, byte, number}
use Rattle.document.specs.Encoding.{byte_at, base_at, factor_at, encoded}
use Rattle.document.specs.Reading.{joined_columns, data_from}
use Rattle.document.proofs.Bounds.{A>0}
use Rattle.document.proofs.ByteField.{byte_number, byte_zero, number_add, number_mul}
use Rattle.document.proofs.Arrays.{laid_only, laid_bytes}
use Rattle.document.proofs.Rows.{row_word, row_data}
use Rattle.document.proofs.Columns.{nodes_distinct}
use Rattle.document.proofs.SquareSteps.{matrix}
use Rattle.document.proofs.Reading.{read_data, read_columns}
use Rattle.algebra.specs.Weight.{weight}
use Rattle.coefficients.specs.Weights.{points}
use Rattle.lists.specs.Positions.{position_in}
use Rattle.coefficients.proofs.Combination.{sum_bytes}
use Rattle.coefficients.proofs.Lagrange.{weights_at}
use Rattle.half_pairs.specs.HalfPairs.{
  named,
  is_named,
  partner_at,
  half_pairs,
  half_pair_at,
  weight_row,
  system_at,
}
use Rattle.half_pairs.proofs.Named.{named_choice, named_positions}
use Rattle.half_pairs.proofs.Table.{row_other, row_length}
use Rattle.half_pairs.proofs.Symbols.{
  U,
  known_of,
  known_partner_of,
  partner_symbol,
  half_each,
  half_has,
  inverse_clear,
  solved,
  symbol_is,
}
use Rattle.reading.proofs.Partners.{partner_length, half_below}
use Rattle.reading.specs.Steps.{
  known_strip,
  known_strips,
  known_partner_strip,
  known_partner_strips,
  partner_strip,
  completed_strip,
  completed,
  base_column,
  base_columns,
  data_by,
}

infixl 65 ◌⊕◌
infixl 70 ◌⊗◌
open bytes use {𝟘, add as ◌⊕◌, mul as ◌⊗◌}

-- A sum of strips with weights, over more sources than there are weights: the others count nothing.
sum_more : (ws src : List ℕ) (offset stride m : ℕ) → length ws ≤ m
    → sum_of ws src offset stride
    ≡ number (sum bytes m (λ q. byte (get_or src (offset + q * stride) 0) ⊗ byte (get_or ws q 0)))
sum_more ws src offset stride m h =
    sum_bytes ws src offset stride
    ∙ ap number
    (sym (ap (λ (c : ℕ). sum bytes c term) whole ∙ sum_plus bytes (length ws) (m - length ws) term
    ∙ ap (λ (v : Byte). sum bytes (length ws) term ⊕ v) (sum_zero bytes (m - length ws) (λ q l. none q))
    ∙ add-zero bytes _))
  where
    term : ℕ → Byte
    term q = byte (get_or src (offset + q * stride) 0) ⊗ byte (get_or ws q 0)

    whole : m ≡ length ws + (m - length ws)
    whole = omega arith

    none : (q : ℕ) → term (length ws + q) ≡ 𝟘
    none q =
        let past : length ws ≤ length ws + q = omega arith in
        ap (λ (v : ℕ). byte (get_or src (offset + (length ws + q) * stride) 0) ⊗ byte v) (get_or-eq_default ws 0 past)
        ∙ ap (λ (v : Byte). byte (get_or src (offset + (length ws + q) * stride) 0) ⊗ v) byte_zero ∙ mul-zero bytes _

module _ (p : Profile) (acc : Accepted p) (nodes : List ℕ) (rises : Rising p.n p.k nodes)
    (lines : List Line) (I : Inverse bytes (U p nodes) (U p nodes) (system_at p nodes) (matrix lines))
    (x : List ℕ) (size : length x ≡ p.k * p.a * p.s) (small : (e : ℕ) → e < length x → get_or x e 0 < 256) where
  open p use {n, k, a as A, s as S}

  abbrev count : ℕ
  count = U p nodes

  abbrev o : ℕ → ℕ
  o = half_pair_at p nodes

  -- the data of document 01, and their base symbols
  abbrev d : List ℕ
  d = data_from p nodes x

  columns : joined_columns p nodes (encoded p d) ≡ x
  columns = read_columns p acc nodes rises (inverse_clear p nodes acc rises I) x size small

  symbol : ℕ → ℕ → ℕ → Byte
  symbol b i j = base_at p d b (place j i)

  strip_row : (z : ℕ) → z % A < A
  strip_row z = mod-lt z (A>0 p acc)

  strip_node : (z : ℕ) → z < k * A → z / A < k
  strip_node z h = (div-lt_iff_lt-mul (A>0 p acc)).1 h

  -- ---- what is known
  abbrev y : List ℕ
  y = known_strips p nodes x

  known_length : length y ≡ k * A * S
  unfolding known_strips
  known_length = listed_length (k * A * S) _

  known_byte : (z b : ℕ) → z < k * A → b < S → get_or y (z * S + b) 0 ≡ number (known_of p nodes x b (z % A) (z / A))
  unfolding known_strips known_strip
  known_byte z b h l =
      listed_at (k * A * S) _ (z * S + b) 0 (digits_lt h l)
      ∙ ap₂ (λ (m r : ℕ). get_or (known_strip p nodes x m) r 0) (digits_div z l) (digits_mod z l)
      ∙ listed_at S _ b 0 l

  -- the weight of a named node at a node that is not named
  weight_is : (j q : ℕ) → q < k → is_named k nodes j ≡ false
      → byte (get_or (weight_row k nodes j) q 0) ≡ weight_at bytes k byte (named nodes) q j
  weight_is j q h other =
      ap (λ (w : List ℕ). byte (get_or w q 0)) (sym (row_other k nodes j (ltb-false _ _ other)))
      ∙ ap byte (weights_at nodes j q (omega (arith, nodes_size)))
      ∙ byte_number _
      ∙ ap (λ (m : ℕ). weight bytes m (points nodes) q (byte j)) nodes_size
    where
      nodes_size : length nodes ≡ k
      nodes_size = risen_length rises

  -- ---- a sum over the strips of one row
  module _ (v : List ℕ) (f : ℕ → ℕ → ℕ → Byte)
      (holds : (z b : ℕ) → z < k * A → b < S → get_or v (z * S + b) 0 ≡ number (f b (z % A) (z / A))) where
    row_sum : (j i b : ℕ) → i < A → b < S → is_named k nodes j ≡ false
        → sum_of (weight_row k nodes j) v (i * S + b) (A * S)
        ≡ number (sum bytes k (λ q. f b i q ⊗ weight_at bytes k byte (named nodes) q j))
    row_sum j i b r l other =
        sum_more (weight_row k nodes j) v (i * S + b) (A * S) k (omega (arith, row_length k nodes j (risen_length rises)))
        ∙ ap number (sum_ext bytes k (λ q h. ap₂ ◌⊗◌ (at q h) (weight_is j q h other)))
      where
        at : (q : ℕ) → q < k → byte (get_or v (i * S + b + q * (A * S)) 0) ≡ f b i q
        at q h =
            let e : i * S + b + q * (A * S) ≡ (q * A + i) * S + b = omega (arith, add-mul (q * A) i S, mul_assoc q A S) in
            ap (λ (m : ℕ). byte (get_or v m 0)) e ∙ ap byte (holds (q * A + i) b (digits_lt h r) l) ∙ byte_number _
            ∙ ap₂ (f b) (digits_mod q r) (digits_div q r)

  -- ---- the partners of the half pairs
  abbrev r : List ℕ
  r = known_partner_strips p nodes y

  other_node : (e : ℕ) → e < count → is_named k nodes (partner_at p nodes (o e)).node.0 ≡ false
  other_node e h = (half_each p nodes acc rises e h).0

  partner_byte : (e b : ℕ) → e < count → b < S → get_or r (e * S + b) 0 ≡ number (known_partner_of p nodes x b (o e))
  unfolding known_partner_strips known_partner_strip combination_of known_partner
  partner_byte e b h l =
      listed_at (count * S) _ (e * S + b) 0 (digits_lt h l)
      ∙ ap₂ (λ (m c : ℕ). get_or (known_partner_strip p nodes y (o m)) c 0) (digits_div e l) (digits_mod e l)
      ∙ listed_at S _ b 0 l
      ∙ row_sum y (λ b i q. known_of p nodes x b i q) known_byte (partner_at p nodes (o e)).node.0
      (partner_at p nodes (o e)).row.0 b (mod-lt (named nodes (o e / A)) (A>0 p acc)) l (other_node e h)

  -- the e-th of them, solved for
  solved_byte : (e b : ℕ) → e < count → b < S
      → get_or (partner_strip p nodes (line_at lines e) r) b 0 ≡ number (partner_symbol p nodes (symbol b) (o e))
  unfolding partner_strip combination_of dot matrix symbol
  solved_byte e b h l =
      listed_at S _ b 0 l
      ∙ sum_more (take count (line_at lines e)) r (0 + b) S count (omega (arith, length-take count (line_at lines e)))
      ∙ ap number
      (sum_ext bytes count (λ f u. term f u)
      ∙ sym (solved p nodes acc rises d x columns b l I e h))
    where
      term : (f : ℕ) → f < count
          → byte (get_or r (0 + b + f * S) 0) ⊗ byte (get_or (take count (line_at lines e)) f 0)
          ≡ byte (entry lines e f) ⊗ known_partner_of p nodes x b (o f)
      term f u =
          let at : 0 + b + f * S ≡ f * S + b = omega arith in
          ap₂ ◌⊗◌
          (ap (λ (m : ℕ). byte (get_or r m 0)) at ∙ ap byte (partner_byte f b u l) ∙ byte_number _)
          (ap byte (get_or-take count (line_at lines e) f 0 u))
          ∙ mul_comm bytes _ _

  -- ---- the strips completed
  -- what the e-th half pair is given
  added : ℕ → ℕ → Byte
  added e b =
      factor_at p (o e % A) (named nodes (o e / A) % A) ⊗ partner_symbol p nodes (symbol b) (o e)

  -- the strip z after the first m
  part : ℕ → ℕ → ℕ → Byte
  part m z b = known_of p nodes x b (z % A) (z / A) ⊕ sum bytes m (λ e. pick (ℕ_discrete (o e) z) (added e b) 𝟘)

  completed_length : (m : ℕ) → length (completed p nodes lines r m y) ≡ k * A * S
  unfolding completed completed_strip added_scaled
  completed_length zero = known_length
  completed_length (suc m) =
      patched_length (o m * S) _ _ (completed p nodes lines r m y) ∙ completed_length m

  completed_byte : (m : ℕ) → m ≤ count → (z b : ℕ) → z < k * A → b < S
      → get_or (completed p nodes lines r m y) (z * S + b) 0 ≡ number (part m z b)
  unfolding completed completed_strip added_scaled added part sum
  completed_byte zero h z b u l = known_byte z b u l ∙ ap number (sym (add-zero bytes _))
  completed_byte (suc m) h z b u l =
      step (ℕ_discrete (o m) z) (completed_byte m (omega arith) z b u l)
    where
      before : List ℕ
      before = completed p nodes lines r m y

      strip : List ℕ
      strip = partner_strip p nodes (line_at lines m) r

      f : ℕ
      f = number (factor_at p (o m % A) (named nodes (o m / A) % A))

      sums : Byte
      sums = sum bytes m (λ e. pick (ℕ_discrete (o e) z) (added e b) 𝟘)

      step : (t : Dec (o m ≡ z)) → get_or before (z * S + b) 0 ≡ number (part m z b)
          → get_or (completed_strip p nodes (line_at lines m) r m before) (z * S + b) 0
          ≡ number (known_of p nodes x b (z % A) (z / A) ⊕ (sums ⊕ pick t (added m b) 𝟘))
      step (yes t) e =
          ap (λ (c : ℕ). get_or (completed_strip p nodes (line_at lines m) r m before) (c * S + b) 0) (sym t)
          ∙ patched_in (o m * S) (length strip) _ before b (omega (arith, partner_length p nodes (line_at lines m) r, l)) inside
          ∙ ap₂ (λ (v w : ℕ). G.◌⊕◌ v (G.◌⊗◌ f w)) (ap (λ (m : ℕ). get_or before (m * S + b) 0) t ∙ e)
          (solved_byte m b (omega arith) l)
          ∙ ap (λ (w : ℕ). G.◌⊕◌ (number (part m z b)) w) (sym (number_mul _ _))
          ∙ sym (number_add _ _) ∙ ap number (bytes.add_assoc _ sums (added m b))
        where
          inside : o m * S + b < length before
          inside = omega (arith, completed_length m, digits_lt (half_below p acc nodes rises m (omega arith)) l)
      step (no t) e =
          patched_out (o m * S) (length strip) _ before (z * S + b) (λ low high. t (sym (same low high))) ∙ e
          ∙ ap number (sym (ap (λ (v : Byte). known_of p nodes x b (z % A) (z / A) ⊕ v) (add-zero bytes sums)))
        where
          same : o m * S ≤ z * S + b → z * S + b < o m * S + length strip → z ≡ o m
          same low high =
              let left : z * S + b - o m * S < S = omega (arith, partner_length p nodes (line_at lines m) r) in
              let again : o m * S + (z * S + b - o m * S) ≡ z * S + b = omega arith in
              sym (digits_div z l) ∙ ap (λ (m : ℕ). m / S) (sym again) ∙ digits_div (o m) left

  -- no two half pairs are one
  half_once : (e f : ℕ) → e < count → f < count → o e ≡ o f → e ≡ f
  unfolding half_pairs
  half_once e f h u same = go (dec_lt e f) (dec_lt f e)
    where
      once : Distinct (half_pairs p nodes)
      once = once_distinct (k * A) _ _ (rising_once (k * A) _)

      go : Dec (e < f) → Dec (f < e) → e ≡ f
      go (yes l) t = absurd (distinct_at 0 once e f l u same)
      go (no l) (yes t) = absurd (distinct_at 0 once f e t h (sym same))
      go (no l) (no t) = omega arith

  -- all of them completed: the base symbols of the named nodes
  abbrev w : List ℕ
  w = completed p nodes lines r count y

  symbol_byte : (z b : ℕ) → z < k * A → b < S → get_or w (z * S + b) 0 ≡ number (symbol b (z % A) (named nodes (z / A)))
  unfolding part added symbol half_factor
  symbol_byte z b h l =
      completed_byte count (omega arith) z b h l
      ∙ ap number
      (ap (λ (v : Byte). known_of p nodes x b (z % A) (z / A) ⊕ v)
      (go (dec_lt (position_in nodes (opposite A (named nodes) (z % A) (z / A))) k))
      ∙ sym (symbol_is p nodes acc rises d x columns b l (z % A) (z / A) (strip_row z) (strip_node z h)))
    where
      term : ℕ → Byte
      term e = pick (ℕ_discrete (o e) z) (added e b) 𝟘

      partner : Byte
      partner = partner_symbol p nodes (symbol b) z

      f : Byte
      f = factor_at p (z % A) (named nodes (z / A) % A)

      one : (e : ℕ) × (e < count) × (o e ≡ z) → sum bytes count term ≡ f ⊗ partner
      one (e, below, at) =
          sum_one bytes count e term below
          (λ g u differ. pick_no (ℕ_discrete (o g) z) _ _ (λ same. differ (half_once g e u below (same ∙ sym at))))
          ∙ pick_yes (ℕ_discrete (o e) z) _ _ at
          ∙ ap (λ (m : ℕ). factor_at p (m % A) (named nodes (m / A) % A) ⊗ partner_symbol p nodes (symbol b) m) at

      go : (t : Dec (position_in nodes (opposite A (named nodes) (z % A) (z / A)) < k))
          → sum bytes count term ≡ pick t 𝟘 f ⊗ partner
      go (yes t) =
          sum_zero bytes count
          (λ e u. pick_no (ℕ_discrete (o e) z) _ _ (λ same.
          let near : position_in nodes (opposite A (named nodes) (o e % A) (o e / A)) < k = rw same t in
          let far : k ≤ position_in nodes (opposite A (named nodes) (o e % A) (o e / A)) =
          ltb-false _ _ (other_node e u) in
          omega arith))
          ∙ sym (zero-mul bytes partner)
      go (no t) = one (half_has p nodes acc rises z h t)

  -- ---- the columns of the data nodes
  column_byte : (j i b : ℕ) → j < k → i < A → b < S
      → get_or (base_column p nodes w j) (i * S + b) 0 ≡ number (symbol b i j)
  unfolding base_column combination_of strip_at symbol
  column_byte j i b h u l = go (is_named k nodes j) refl
    where
      inside : i * S + b < A * S
      inside = digits_lt u l

      go : (t : Bool) → is_named k nodes j ≡ t
          → get_or (cond t (strip_at w (position_in nodes j * (A * S)) (A * S))
          (combination_of (weight_row k nodes j) w 0 (A * S) (A * S))) (i * S + b) 0
          ≡ number (symbol b i j)
      go true t =
          let m : ℕ = position_in nodes j in
          let near : m < k = ltb-true _ _ t in
          let at : m * (A * S) + (i * S + b) ≡ (m * A + i) * S + b = omega (arith, add-mul (m * A) i S, mul_assoc m A S) in
          listed_at (A * S) _ (i * S + b) 0 inside ∙ ap (λ (e : ℕ). get_or w e 0) at
          ∙ symbol_byte (m * A + i) b (digits_lt near u) l
          ∙ ap₂ (λ (c q : ℕ). number (symbol b c (named nodes q))) (digits_mod m u) (digits_div m u)
          ∙ ap (λ (q : ℕ). number (symbol b i q)) ((named_positions rises (risen_length rises)).back j near)
      go false t =
          listed_at (A * S) _ (i * S + b) 0 inside
          ∙ ap (λ (e : ℕ). sum_of (weight_row k nodes j) w e (A * S)) (zero-add (i * S + b))
          ∙ row_sum w (λ b c q. symbol b c (named nodes q)) symbol_byte j i b u l t
          ∙ ap number (sym (whole_row (omega (arith, acc.shape.some_parity))))
        where
          whole_row : j < n
              → symbol b i j ≡ sum bytes k (λ q. symbol b i (named nodes q) ⊗ weight_at bytes k byte (named nodes) q j)
          whole_row =
              recover bytes n byte (nodes_distinct p acc) k (named nodes) (named_choice rises) (row_word p d b i) j

  -- The data that the steps come to.
  pub data_by_lem : data_by p nodes lines x ≡ d
  unfolding data_by base_columns symbol
  data_by_lem =
      laid_only p k (byte_at p d) (data_by p nodes lines x) (listed_length (k * (A * S)) _ ∙ sym (mul_assoc k A S)) at
      ∙ sym (laid_bytes p k d (read_data p nodes x).size (read_data p nodes x).bytes_only)
    where
      at : (z b : ℕ) → z < k * A → b < S
          → get_or (data_by p nodes lines x) (z * S + b) 0 ≡ number (byte_at p d b (place (z / A) (z % A)))
      at z b h l =
          let j : ℕ = z / A in
          let i : ℕ = z % A in
          let inside : i * S + b < A * S = digits_lt (strip_row z) l in
          let e : z * S + b ≡ j * (A * S) + (i * S + b) =
          omega (arith, ap (λ (m : ℕ). m * S) (div-add-mod' z A), add-mul (j * A) i S, mul_assoc j A S) in
          ap (λ (m : ℕ). get_or (base_columns p nodes w) m 0) e
          ∙ listed_at (k * (A * S)) _ (j * (A * S) + (i * S + b)) 0 (digits_lt (strip_node z h) inside)
          ∙ ap₂ (λ (m c : ℕ). get_or (base_column p nodes w m) c 0) (digits_div j inside) (digits_mod j inside)
          ∙ column_byte j i b (strip_node z h) (strip_row z) l
          ∙ ap number (row_data p d b i acc j (strip_node z h))
