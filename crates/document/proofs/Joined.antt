-- The columns of k nodes of a stored array, joined in list order: k columns in memory's order, their bytes, and when a
-- list is these columns.
use mathlib.Core.Path.{◌≡◌, sym, ap, ◌∙◌}
use mathlib.Core.List.{List, ◌++◌}
use Prim.Native.Nat.{ℕ, zero, suc, ◌+◌, ◌*◌, ◌/◌, ◌%◌, ◌<◌}
use native.Mathlib.Nat.{zero-mul, suc-mul, add-mul, mul_assoc, mod-lt, div-add-mod', div-lt_iff_lt-mul}
use native.Mathlib.Omega.{arith}
use lib.Arith.{digits_lt}
use lib.ListN.{length, get_or, length-append, get_or-append}
use lib.Seq.{get_or-append-add}
use Rattle.lists.proofs.Slice.{slice_length, slice_at}
use Rattle.ksets.specs.Sets.{RisingFrom, none, next, Rising}
use Rattle.document.specs.declared.Profile.{Profile}
use Rattle.document.specs.declared.Place.{Place}
use Rattle.document.specs.Places.{place}
use Rattle.document.specs.ByteField.{Byte, byte, number}
use Rattle.document.specs.Encoding.{start, byte_at, column_in, laid_out, Data, Stored}
use Rattle.document.specs.Reading.{joined_place, joined_columns}
use Rattle.document.proofs.ByteField.{number_byte, byte_number}
use Rattle.document.proofs.Bounds.{room}
use Rattle.document.proofs.Arrays.{factor_above, laid_strip, laid_only, laid_data}

-- The entries of a rising list lie below its bound.
pub rising_below : {n b k : ℕ} {xs : List ℕ} → RisingFrom n b k xs → (m : ℕ) → m < k → get_or xs m 0 < n
rising_below none m h = absurd (omega arith)
rising_below (next low high r) zero h = high
rising_below (next low high r) (suc m) h = rising_below r m (omega arith)

module _ (p : Profile) where
  open p use {n, k, a as A, s as S}

  module _ {y : List ℕ} (Y : Stored p y) where
    -- a column is whole
    column_length : (j : ℕ) → j < n → length (column_in p y j) ≡ A * S
    column_length j h =
        slice_length y (j * A * S) (A * S)
        (omega (arith, Y.size, room j n (A * S) h, mul_assoc j A S, mul_assoc n A S))

    joined_length : {from c : ℕ} {nodes : List ℕ} → RisingFrom n from c nodes
        → length (joined_columns p nodes y) ≡ c * (A * S)
    unfolding joined_columns
    joined_length none = sym (zero-mul (A * S))
    joined_length (next {k = c} {x = j} {xs = nodes} low high rest) =
        length-append (column_in p y j) (joined_columns p nodes y)
        ∙ omega (arith, column_length j high, joined_length rest, suc-mul c (A * S))

    -- byte o of the column of the node at index m of the list
    joined_at_lem : {from c : ℕ} {nodes : List ℕ} → RisingFrom n from c nodes → (m o : ℕ) → m < c → o < A * S
        → get_or (joined_columns p nodes y) (m * (A * S) + o) 0 ≡ get_or y (get_or nodes m 0 * A * S + o) 0
    unfolding joined_columns
    joined_at_lem none m o h l = absurd (omega arith)
    joined_at_lem (next {k = c} {x = j} {xs = nodes} low high rest) zero o h l =
        ap (λ (e : ℕ). get_or (column_in p y j ++ joined_columns p nodes y) e 0) (omega (arith, zero-mul (A * S)))
        ∙ get_or-append (column_in p y j) (joined_columns p nodes y) 0 o (omega (arith, column_length j high))
        ∙ slice_at y (j * A * S) (A * S) o l
    joined_at_lem (next {k = c} {x = j} {xs = nodes} low high rest) (suc m) o h l =
        ap (λ (e : ℕ). get_or (column_in p y j ++ joined_columns p nodes y) e 0)
        (omega (arith, column_length j high, suc-mul m (A * S)))
        ∙ get_or-append-add (column_in p y j) (joined_columns p nodes y) (m * (A * S) + o) 0
        ∙ joined_at_lem rest m o (omega arith) l

    module _ {nodes : List ℕ} (rises : Rising n k nodes) where
      -- what stands at a place where the named nodes are taken for nodes 0 to k-1
      abbrev named_byte : ℕ → Place → Byte
      named_byte b q = byte_at p y b (place (get_or nodes q.node.0 0) q.row.0)

      joined_laid : joined_columns p nodes y ≡ laid_out p k named_byte
      unfolding byte_at start
      joined_laid =
          laid_only p k named_byte (joined_columns p nodes y) (joined_length rises ∙ sym (mul_assoc k A S)) at
        where
          at : (z b : ℕ) → z < k * A → b < S
              → get_or (joined_columns p nodes y) (z * S + b) 0
              ≡ number (byte (get_or y ((get_or nodes (z / A) 0 * A + z % A) * S + b) 0))
          at z b h l =
              let j : ℕ = get_or nodes (z / A) 0 in
              let some : 0 < A = factor_above k A z h in
              let m : z / A < k = (div-lt_iff_lt-mul some).1 h in
              let r : z % A < A = mod-lt z some in
              ap (λ (e : ℕ). get_or (joined_columns p nodes y) e 0)
              (omega
              (arith, ap (λ (v : ℕ). v * S) (div-add-mod' z A), add-mul (z / A * A) (z % A) S, mul_assoc (z / A) A S))
              ∙ joined_at_lem rises (z / A) (z % A * S + b) m (digits_lt r l)
              ∙ ap (λ (e : ℕ). get_or y e 0) (omega (arith, add-mul (j * A) (z % A) S))
              ∙ sym (number_byte _ (Y.bytes_only ((j * A + z % A) * S + b)
              (rw Y.size (digits_lt (digits_lt (rising_below rises (z / A) m) r) l))))

      -- byte b of strip z
      pub joined_byte : (z b : ℕ) → z < k * A → b < S
          → byte (get_or (joined_columns p nodes y) (z * S + b) 0) ≡ byte_at p y b (joined_place p nodes z)
      joined_byte z b h l =
          ap (λ (x : List ℕ). byte (get_or x (z * S + b) 0)) joined_laid
          ∙ ap byte (laid_strip p k _ z b h l) ∙ byte_number (byte_at p y b (joined_place p nodes z))

      -- they are kAS bytes, as data are
      pub joined_data : Data p (joined_columns p nodes y)
      joined_data = rw joined_laid (laid_data p _)

      -- kAS bytes that are those of the strips are the columns
      pub joined_only : (x : List ℕ) → Data p x
          → ((z b : ℕ) → z < k * A → b < S → byte_at p y b (joined_place p nodes z) ≡ byte (get_or x (z * S + b) 0))
          → joined_columns p nodes y ≡ x
      joined_only x X h =
          joined_laid
          ∙ sym
          (laid_only p k _ x X.size
          (λ z b u l. sym (number_byte _ (X.bytes_only (z * S + b) (rw X.size (digits_lt u l))))
          ∙ ap number (sym (h z b u l))))
