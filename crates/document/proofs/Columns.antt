-- What the algebra shows of a rebuild, for document 01's arrays: lists of bytes, a strip at each place.
use mathlib.Core.Path.{◌≡◌, sym, ap, ◌∙◌}
use mathlib.Core.Logic.{◌≢◌, ◌⊎◌}
use mathlib.Core.List.{List}
use Prim.Native.Nat.{ℕ, ◌+◌, ◌*◌, ◌/◌, ◌%◌, ◌≤◌, ◌<◌}
use native.Mathlib.Nat.{add-mul, mul-le-mul_right, mod-lt, div-lt_iff_lt-mul, div-add-mod'}
use native.Mathlib.Decide.{ℕ_discrete, dec_lt}
use native.Mathlib.Omega.{arith}
use lib.ListN.{length, get_or}
use Rattle.lists.specs.Listed.{listed}
use Rattle.lists.proofs.Listed.{listed_ext}
use Rattle.lists.proofs.Slice.{slice_at, slice_listed}
use Rattle.algebra.specs.Polynomial.{DistinctPoints}
use Rattle.algebra.specs.RowCode.{Choice}
use Rattle.algebra.specs.Coupling.{Array, stored}
use Rattle.algebra.specs.Encoding.{symbols, encode, Code, Encoded}
use Rattle.algebra.specs.Rebuild.{rebuilt_at, Planned, own, chosen, partner}
use Rattle.algebra.proofs.Field.{add-zero, zero-mul, one-mul}
use Rattle.algebra.proofs.Coupling.{factor_diagonal, factor_upper, factor_lower}
use Rattle.algebra.proofs.Encoding.{code, encode_ext, encoded_encode}
use Rattle.algebra.proofs.Rebuild.{Fitting, rebuilt_same, column, fits}
use Rattle.document.specs.declared.Profile.{Profile}
use Rattle.document.specs.declared.Place.{Place}
use Rattle.document.specs.Profile.{Accepted}
use Rattle.document.specs.Places.{place, Within}
use Rattle.document.specs.ByteField.{bytes, Byte, byte, number}
use Rattle.document.specs.Encoding.{
  start,
  byte_at,
  strip_of,
  column_in,
  base_at,
  constant_of,
  factor_at,
  coupled_at,
  laid_out,
  column_of,
  Data,
  encoded,
}
use Rattle.document.specs.Message.{strip_field_length, strip_in, strip_field_start}
use Rattle.document.specs.Bundle.{bundle_strip}
use Rattle.document.specs.Rebuild.{first_strip}
use Rattle.document.proofs.ByteField.{number_byte, number_zero, number_one, points_distinct}
use Rattle.document.proofs.Bounds.{room, A>0, n_is, strip_within}
use Rattle.document.proofs.Arrays.{
  laid_byte,
  laid_data,
  coupled_diagonal,
  coupled_upper,
  coupled_lower,
}
use Rattle.document.proofs.Rows.{row_word}

infixl 65 ◌⊕◌
infixl 70 ◌⊗◌
open bytes use {𝟘, 𝟙, add as ◌⊕◌, mul as ◌⊗◌}

-- the symbols at one byte offset of the strips, for the algebra: row first
abbrev pub array : (ℕ → Place → Byte) → ℕ → Array bytes
array x b i j = x b (place j i)

module _ (p : Profile) where
  open p use {n, k, a as A, t, s as S}

  -- document 01's three cases are the algebra's one
  pub coupled_stored : (a : Place → Byte) (i j : ℕ)
      → coupled_at p a (place j i) ≡ stored bytes A (factor_at p) (λ i j. a (place j i)) i j
  unfolding stored
  coupled_stored a i j = go (ℕ_discrete i (j % A)) (dec_lt i (j % A))
    where
      u : Byte
      u = a (place j i)

      v : Byte
      v = a (place (j / A * A + i) (j % A))

      with_factor : (c : Byte) → factor_at p i (j % A) ≡ c → u ⊕ c ⊗ v ≡ u ⊕ factor_at p i (j % A) ⊗ v
      with_factor c e = ap (λ (z : Byte). u ⊕ z ⊗ v) (sym e)

      go : Dec (i ≡ j % A) → Dec (i < j % A) → coupled_at p a (place j i) ≡ u ⊕ factor_at p i (j % A) ⊗ v
      go (yes e) l =
          coupled_diagonal p a j i e
          ∙ sym (ap (λ (z : Byte). u ⊕ z) (zero-mul bytes v) ∙ add-zero bytes u)
          ∙ with_factor 𝟘 (rw (← e) (factor_diagonal bytes (constant_of p) i))
      go (no d) (yes l) =
          coupled_upper p a j i l
          ∙ sym (ap (λ (z : Byte). u ⊕ z) (one-mul bytes v))
          ∙ with_factor 𝟙 (factor_upper bytes (constant_of p) i (j % A) l)
      go (no d) (no m) =
          let l : j % A < i = omega arith in
          coupled_lower p a j i l ∙ with_factor (constant_of p i (j % A)) (factor_lower bytes (constant_of p) i (j % A) l)

  module _ (f : ℕ) (s : ℕ → ℕ) where
    -- the column of f rebuilt from x, where s 0 .. s (k-1) are the nodes chosen outside f's group
    abbrev pub rebuilt : (ℕ → Place → Byte) → List ℕ
    rebuilt x = column_of p (λ b q. rebuilt_at bytes A k byte (factor_at p) f s (array x b) q.row.0) f

    -- x and y have the same strips at the planned places
    abbrev pub Alike : (ℕ → Place → Byte) → (ℕ → Place → Byte) → Type 0
    Alike x y = (b i j : ℕ) → b < S → Planned A k f s i j → x b (place j i) ≡ y b (place j i)

  module _ (acc : Accepted p) where
    -- columns with the same byte at each row are equal
    column_ext : (x y : ℕ → Place → Byte) (j : ℕ)
        → ((b i : ℕ) → b < S → i < A → x b (place j i) ≡ y b (place j i)) → column_of p x j ≡ column_of p y j
    unfolding column_of
    column_ext x y j h =
        listed_ext (A * S) _ _
        (λ o l. ap number
        (h (o % S) (o / S) (mod-lt o acc.some_bytes) ((div-lt_iff_lt-mul acc.some_bytes).1 l)))

    -- ---- the code: each side fact has one proof, by name, since two would be two codes
    constant_ne : (m : ℕ) (z : Byte) → number z ≡ m → m < 2 → (i l : ℕ) → constant_of p i l ≢ z
    unfolding constant_of
    constant_ne m z h small i l e =
        let same : t ≡ m = sym (number_byte t (omega (arith, acc.one_byte))) ∙ ap number e ∙ h in
        omega (arith, acc.above_one)

    pub constant_ne_zero : (i l : ℕ) → i < A → l < i → constant_of p i l ≢ 𝟘
    constant_ne_zero i l r h = constant_ne 0 𝟘 number_zero (omega arith) i l

    pub constant_ne_one : (i l : ℕ) → i < A → l < i → constant_of p i l ≢ 𝟙
    constant_ne_one i l r h = constant_ne 1 𝟙 number_one (omega arith) i l

    pub nodes_distinct : DistinctPoints bytes n byte
    nodes_distinct = points_distinct n (omega (arith, acc.shape.few_nodes))

    abbrev pub coupled_code : Code bytes
    coupled_code =
        code bytes (constant_of p) A n k (n / A) byte constant_ne_zero constant_ne_one (A>0 p acc) (n_is p acc)
        nodes_distinct

    -- ---- encoded arrays
    pub encoded_at : (d : List ℕ) (b : ℕ) → b < S → (i j : ℕ) → i < A → j < n
        → byte_at p (encoded p d) b (place j i) ≡ stored bytes A (factor_at p) (array (base_at p d) b) i j
    unfolding encoded
    encoded_at d b l i j r h =
        laid_byte p n (λ b. coupled_at p (base_at p d b)) b j i l h r ∙ coupled_stored (base_at p d b) i j

    -- what holds of the algebra's encoded arrays holds of an encoded array at each byte offset
    unfoldable pub encoded_offset : (d : List ℕ) (b : ℕ) → b < S
        → Encoded bytes coupled_code (array (byte_at p (encoded p d)) b)
    encoded_offset d b l = record {
      symbols = array (base_at p d) b;
      rows = λ i r. row_word p d b i;
      stores = encoded_at d b l;
    }

    -- ---- the rebuild of node f
    module _ (f : ℕ) (f<n : f < n) (s : ℕ → ℕ) (choice : Choice k n s) where
      -- The rebuilt column turns on the planned places alone.
      pub rebuilt_alike : (x y : ℕ → Place → Byte) → Alike f s x y → rebuilt f s x ≡ rebuilt f s y
      rebuilt_alike x y same =
          column_ext _ _ f
          (λ b i l. rebuilt_same bytes coupled_code f s (array x b) (array y b) (λ i j w. same b i j l w) i)

      -- All encoded arrays with the strips of x at the planned places have one lost column, the one rebuilt from x.
      pub lost_column : (d : List ℕ) (x : ℕ → Place → Byte) → Alike f s (byte_at p (encoded p d)) x
          → column_of p (byte_at p (encoded p d)) f ≡ rebuilt f s x
      lost_column d x same =
          column_ext _ _ f
          (λ b i l. column bytes coupled_code f s f<n choice (array x b) (array (byte_at p (encoded p d)) b)
          (encoded_offset d b l) (λ i j w. same b i j l w) i)

      planned_within : {i j : ℕ} → Planned A k f s i j → (i < A) × (j < n)
      planned_within (own i l d) = (mod-lt f (A>0 p acc), coupled_code.partners i f l f<n)
      planned_within (chosen q l) = (mod-lt f (A>0 p acc), choice.below q l)
      planned_within (partner q l d) =
          (mod-lt (s q) (A>0 p acc), coupled_code.partners (f % A) (s q) (mod-lt f (A>0 p acc)) (choice.below q l))

      -- Any strips at the planned places stand in some encoded array.
      pub some_array : ((q : ℕ) → q < k → s q / A ≢ f / A) → (n / A ≤ k) ⊎ ((q : ℕ) → q < k → s q % A ≡ f % A)
          → (x : ℕ → Place → Byte)
          → (d : List ℕ) × Data p d × Alike f s (byte_at p (encoded p d)) x
      unfolding encode symbols base_at
      some_array outside shape x = (d, laid_data p base, same)
        where
          fit : (b : ℕ) → Fitting bytes coupled_code f s (array x b)
          fit b =
              fits bytes coupled_code f s f<n choice (n / A) (n_is p acc) acc.shape.some_data outside shape
              (array x b)

          base : ℕ → Place → Byte
          base b q = (fit b).1.symbols q.row.0 q.node.0

          d : List ℕ
          d = laid_out p k base

          holds : (b i j : ℕ) → b < S → i < A → j < n → byte_at p (encoded p d) b (place j i) ≡ (fit b).0 i j
          holds b i j l r h =
              encoded_at d b l i j r h
              ∙ encode_ext bytes (constant_of p) A k byte (A>0 p acc) (array (byte_at p d) b) (fit b).1.symbols
              (λ i q r h. laid_byte p k base b q i l h r) i j r
              ∙ sym
              (encoded_encode bytes (constant_of p) A n k (n / A) byte constant_ne_zero constant_ne_one (A>0 p acc)
              (n_is p acc) nodes_distinct (omega (arith, acc.shape.some_parity)) (fit b).0 (fit b).1 i j r h)

          same : Alike f s (byte_at p (encoded p d)) x
          same b i j l w = holds b i j l (planned_within w).0 (planned_within w).1 ∙ (fit b).2 i j w

    -- ---- columns and strips in memory
    module _ (x : List ℕ) (size : length x ≡ n * A * S) (small : (e : ℕ) → e < length x → get_or x e 0 < 256) where
      -- A node's column lies in one piece.
      pub column_slice : (j : ℕ) → j < n → column_of p (byte_at p x) j ≡ column_in p x j
      unfolding column_of byte_at start
      column_slice j h = slice_listed x (j * A * S) (A * S) within _ at
        where
          within : j * A * S + A * S ≤ length x
          within = omega (arith, mul-le-mul_right S (room j n A h), add-mul (j * A) A S)

          at : (o : ℕ) → o < A * S
              → number (byte (get_or x ((j * A + o / S) * S + o % S) 0)) ≡ get_or x (j * A * S + o) 0
          at o l =
              let e : (j * A + o / S) * S + o % S ≡ j * A * S + o =
              omega (arith, add-mul (j * A) (o / S) S, div-add-mod' o S) in
              rw e (number_byte _ (small (j * A * S + o) (omega (arith, within))))

      -- A strip of an array is the bytes at its place.
      pub strip_bytes : (q : Place) → Within p q → strip_of p x q ≡ listed S (λ b. number (byte_at p x b q))
      unfolding strip_of byte_at start
      strip_bytes q w =
          let within : start p q + S ≤ length x = rw size (strip_within p acc q w) in
          sym
          (slice_listed x (start p q) S within _ (λ b l. number_byte _ (small (start p q + b) (omega arith))))

  -- the bytes at a place, by the strip there
  pub strip_byte : (x : List ℕ) (q : Place) (v : List ℕ) → strip_of p x q ≡ v → (b : ℕ) → b < S
      → byte_at p x b q ≡ byte (get_or v b 0)
  unfolding strip_of byte_at
  strip_byte x q v e b l =
      ap byte (sym (slice_at x (start p q) S b l) ∙ ap (λ (strip : List ℕ). get_or strip b 0) e)

  -- strip i of a bundle, where a rebuild reads it
  pub given_strip : (b : List ℕ) (i o : ℕ) → o < S
      → get_or (bundle_strip p b i) o 0 ≡ get_or b (first_strip p + i * strip_field_length S + o) 0
  unfolding strip_in strip_field_start
  given_strip b i o l = slice_at b _ S o l ∙ ap (λ (e : ℕ). get_or b e 0) (omega arith)
