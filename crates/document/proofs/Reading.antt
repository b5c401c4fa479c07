-- Reading back. The columns of k nodes are, at each byte offset, the coefficient square applied to the data. So where
-- its elimination gets stuck some two different data give equal columns, and otherwise the data read back are the only
-- ones with these columns.
use mathlib.Core.Path.{◌≡◌, refl, sym, ap, ◌∙◌}
use mathlib.Core.Logic.{◌≢◌}
use mathlib.Core.Bool.{Bool, true, false}
use mathlib.Core.List.{List}
use Prim.Native.Nat.{ℕ, ◌+◌, ◌*◌, ◌/◌, ◌%◌, ◌<◌}
use native.Mathlib.Nat.{mul_comm, mod-lt, div-add-mod', div-lt_iff_lt-mul}
use native.Mathlib.Omega.{arith}
use lib.Arith.{digits_lt, digits_div, digits_mod}
use lib.ListN.{length, get_or}
use Rattle.lists.specs.Listed.{listed}
use Rattle.lists.proofs.Listed.{listed_length, listed_at, listed_holds}
use Rattle.ksets.specs.Sets.{Rising}
use Rattle.algebra.specs.Square.{dot, Matrix, image, Solves, Kernel, Inverse}
use Rattle.algebra.proofs.Sum.{sum_ext}
use Rattle.algebra.proofs.Square.{dot_ext, dot_zeros}
use Rattle.square.specs.declared.Line.{Line}
use Rattle.square.specs.Steps.{no_line, line_at, entry}
use Rattle.document.specs.declared.Profile.{Profile}
use Rattle.document.specs.Profile.{Accepted}
use Rattle.document.specs.Places.{place, Within}
use Rattle.document.specs.ByteField.{bytes, Byte, byte, number}
use Rattle.document.specs.Encoding.{byte_at, laid_out, Data, encoded}
use Rattle.document.specs.Reading.{
  coefficient_at,
  data_place,
  data_index,
  joined_place,
  joined_columns,
  coefficient_line,
  square_of,
  elimination_of,
  ambiguous,
  inverse_of,
  data_from,
}
use Rattle.document.proofs.ByteField.{number_lt, byte_number}
use Rattle.document.proofs.Bounds.{A>0}
use Rattle.document.proofs.Arrays.{laid_byte, laid_ext, laid_bytes, laid_data, encoded_stored}
use Rattle.document.proofs.Joined.{rising_below, joined_byte, joined_data, joined_only}
use Rattle.document.proofs.SquareSteps.{matrix, Shaped, unit_square_lem}
use Rattle.document.proofs.Squares.{singular_kernel, regular, not_singular}
use Rattle.document.proofs.Coefficients.{encoded_sum}

infixl 70 ◌⊗◌
open bytes use {𝟘, mul as ◌⊗◌}

-- The numbers of bytes, listed, lie below 256, and so does what is read past the end.
pub listed_small : (w : ℕ) (f : ℕ → Byte) (e : ℕ) → get_or (listed w (λ i. number (f i))) e 0 < 256
listed_small w f = listed_holds (λ (v : ℕ). v < 256) 0 (omega arith) w (λ i. number (f i)) (λ i. number_lt (f i))

module _ (p : Profile) where
  open p use {n, k, a as A, s as S}

  -- ---- data, symbol by symbol
  -- a symbol of data that are given by its number
  laid_symbol : 0 < k → (f : ℕ → ℕ → Byte) (b e : ℕ) → b < S → e < k * A
      → byte_at p (laid_out p k (λ b q. f b (data_index p q))) b (data_place p e) ≡ f b e
  laid_symbol k>0 f b e l h =
      laid_byte p k (λ b q. f b (data_index p q)) b (e % k) (e / k) l (mod-lt e k>0)
      ((div-lt_iff_lt-mul k>0).1 (omega (arith, mul_comm k A)))
      ∙ ap (f b) (div-add-mod' e k)

  -- data with the same symbols are equal
  pub data_ext : (d c : List ℕ) → Data p d → Data p c
      → ((b e : ℕ) → b < S → e < k * A → byte_at p d b (data_place p e) ≡ byte_at p c b (data_place p e)) → d ≡ c
  data_ext d c D C h =
      laid_bytes p k d D.size D.bytes_only ∙ laid_ext p k (byte_at p d) (byte_at p c) at
      ∙ sym (laid_bytes p k c C.size C.bytes_only)
    where
      at : (b j i : ℕ) → b < S → j < k → i < A → byte_at p d b (place j i) ≡ byte_at p c b (place j i)
      at b j i l u v =
          rw (digits_mod i u, digits_div i u) at (h b (i * k + j) l (omega (arith, digits_lt v u, mul_comm k A)))

  -- 'some two different data give equal columns on these nodes', of encoded arrays
  pub record TwoEncoded (nodes : List ℕ) : Type 0 where
    pub first : List ℕ
    pub second : List ℕ
    pub first_data : Data p first
    pub second_data : Data p second
    pub differ : first ≢ second
    pub alike : joined_columns p nodes (encoded p first) ≡ joined_columns p nodes (encoded p second)

  module _ (nodes : List ℕ) where
    -- ---- the coefficient square
    -- a line of it
    square_line : (z : ℕ) → z < k * A
        → line_at (square_of p nodes) z
        ≡ listed (k * A) (λ e. number (coefficient_at p (joined_place p nodes z) (data_place p e)))
    unfolding square_of coefficient_line
    square_line z h =
        ap (λ (l : Line). l.c) (listed_at (k * A) (λ z. coefficient_line p (joined_place p nodes z)) z no_line h)

    -- there are kA of them
    square_length : length (square_of p nodes) ≡ k * A
    unfolding square_of
    square_length = listed_length (k * A) _

    -- each entry is a byte, a missing one too
    square_small : (z e : ℕ) → entry (square_of p nodes) z e < 256
    unfolding square_of coefficient_line
    square_small z e =
        listed_holds (λ (x : Line). get_or x.c e 0 < 256) no_line (omega arith) (k * A)
        (λ z. coefficient_line p (joined_place p nodes z)) (λ z. listed_small (k * A) _ e) z

    -- It has kA lines of kA bytes.
    pub square_shaped : Shaped (k * A) (k * A) (square_of p nodes)
    square_shaped = record {
      long = omega (arith, square_length);
      wide = λ z h. rw (square_line z h, listed_length) (omega arith);
      small = square_small;
    }

    -- Its entries are the coefficients.
    pub square_at : (z e : ℕ) → z < k * A → e < k * A
        → matrix (square_of p nodes) z e ≡ coefficient_at p (joined_place p nodes z) (data_place p e)
    unfolding matrix
    square_at z e h l =
        ap byte (ap (λ (x : List ℕ). get_or x e 0) (square_line z h) ∙ listed_at (k * A) _ e 0 l) ∙ byte_number _

  -- the columns x at one byte offset, a byte of each strip
  abbrev given : List ℕ → ℕ → ℕ → Byte
  given x b z = byte (get_or x (z * S + b) 0)

  -- the inverse applied to them
  abbrev solution : List ℕ → List ℕ → ℕ → ℕ → Byte
  solution nodes x b = image bytes (k * A) (matrix (inverse_of p nodes)) (given x b)

  -- What is read back is data, whatever the columns.
  pub read_data : (nodes x : List ℕ) → Data p (data_from p nodes x)
  unfolding data_from
  read_data nodes x = laid_data p _

  -- ---- k named nodes of an accepted profile
  module _ (acc : Accepted p) (nodes : List ℕ) (rises : Rising n k nodes) where
    -- how many symbols the data have, and the square of that size
    abbrev m : ℕ
    m = k * A

    abbrev M : Matrix bytes
    M = matrix (square_of p nodes)

    -- the named places lie in the array
    pub joined_within : (z : ℕ) → z < m → Within p (joined_place p nodes z)
    joined_within z h = record {
      node = rising_below rises (z / A) ((div-lt_iff_lt-mul (A>0 p acc)).1 h);
      row = mod-lt z (A>0 p acc);
    }

    -- The columns are the square applied to the data, at each byte offset.
    pub columns_times : (d : List ℕ) (b z : ℕ) → b < S → z < k * A
        → byte_at p (encoded p d) b (joined_place p nodes z)
        ≡ image bytes (k * A) (matrix (square_of p nodes)) (λ e. byte_at p d b (data_place p e)) z
    unfolding dot
    columns_times d b z l h =
        encoded_sum p acc d b (joined_place p nodes z) (joined_within z h) l
        ∙ sum_ext bytes m
        (λ e u. ap (λ (x : Byte). x ⊗ byte_at p d b (data_place p e)) (sym (square_at nodes z e h u)))

    -- The same of data that are given by the numbers of their symbols.
    laid_columns : (f : ℕ → ℕ → Byte) (b z : ℕ) → b < S → z < m
        → byte_at p (encoded p (laid_out p k (λ b q. f b (data_index p q)))) b (joined_place p nodes z)
        ≡ image bytes m M (f b) z
    laid_columns f b z l h =
        columns_times (laid_out p k (λ b q. f b (data_index p q))) b z l h
        ∙ dot_ext bytes m (λ e u. refl) (λ e u. laid_symbol acc.shape.some_data f b e l u)

    -- The elimination gets stuck: a vector other than zero that the square takes to zero is, at each byte offset, data
    -- with the columns of the data that are all zero.
    pub ambiguous_two : ambiguous p nodes ≡ true → TwoEncoded nodes
    unfolding ambiguous elimination_of
    ambiguous_two e = record {
      first = at_numbers v;
      second = at_numbers (λ e. 𝟘);
      first_data = laid_data p _;
      second_data = laid_data p _;
      differ = λ same. null.nonzero
          (sym (symbol v) ∙ ap (λ (d : List ℕ). byte_at p d 0 (data_place p null.at)) same ∙ symbol (λ e. 𝟘));
      alike = joined_only p (encoded_stored p _) rises _ (joined_data p (encoded_stored p _) rises) (λ z b h l.
          laid_columns (λ b. v) b z l h ∙ null.kills z h ∙ sym (dot_zeros bytes m (M z))
          ∙ sym (laid_columns (λ b e. 𝟘) b z l h) ∙ sym (joined_byte p (encoded_stored p _) rises z b h l));
    }
      where
        null : Kernel bytes m m M
        null = (singular_kernel (square_shaped nodes) (unit_square_lem m (omega arith))).0 e

        v : ℕ → Byte
        v = null.vector

        at_numbers : (ℕ → Byte) → List ℕ
        at_numbers f = laid_out p k (λ b q. f (data_index p q))

        symbol : (f : ℕ → Byte) → byte_at p (at_numbers f) 0 (data_place p null.at) ≡ f null.at
        symbol f = laid_symbol acc.shape.some_data (λ b. f) 0 null.at acc.some_bytes null.below

    -- The elimination does not get stuck.
    module _ (clear : ambiguous p nodes ≡ false) where
      -- it made the inverse
      inverse : Inverse bytes m m M (matrix (inverse_of p nodes))
      unfolding ambiguous elimination_of inverse_of
      inverse = regular (square_shaped nodes) (unit_square_lem m (omega arith)) (not_singular _ clear)

      -- The data read back from any kAS bytes have these as their columns.
      pub read_columns : (x : List ℕ) → length x ≡ k * A * S → ((e : ℕ) → e < length x → get_or x e 0 < 256)
          → joined_columns p nodes (encoded p (data_from p nodes x)) ≡ x
      unfolding data_from dot matrix
      read_columns x size small =
          joined_only p (encoded_stored p _) rises x (record { size = size; bytes_only = small })
          (λ z b h l. laid_columns (solution nodes x) b z l h ∙ inverse.solves refl (given x b) z h)

      -- They are the only ones.
      pub read_only : (x d : List ℕ) → Data p d → joined_columns p nodes (encoded p d) ≡ x → d ≡ data_from p nodes x
      unfolding data_from dot matrix
      read_only x d D same = data_ext d (data_from p nodes x) D (read_data nodes x) at
        where
          solves : (b : ℕ) → b < S → Solves bytes m m M (given x b) (λ e. byte_at p d b (data_place p e))
          solves b l z h =
              sym (columns_times d b z l h) ∙ sym (joined_byte p (encoded_stored p d) rises z b h l)
              ∙ ap (λ (y : List ℕ). given y b z) same

          at : (b e : ℕ) → b < S → e < m
              → byte_at p d b (data_place p e) ≡ byte_at p (data_from p nodes x) b (data_place p e)
          at b e l h =
              inverse.unique (given x b) (λ e. byte_at p d b (data_place p e)) (solves b l) e h
              ∙ sym (laid_symbol acc.shape.some_data (solution nodes x) b e l h)

    -- So where two different data have equal columns it gets stuck.
    pub two_ambiguous : TwoEncoded nodes → ambiguous p nodes ≡ true
    two_ambiguous two = go (ambiguous p nodes) refl
      where
        go : (v : Bool) → ambiguous p nodes ≡ v → v ≡ true
        go true e = refl
        go false e =
            absurd (two.differ
            (read_only e _ two.first two.first_data two.alike
            ∙ sym (read_only e _ two.second two.second_data refl)))
