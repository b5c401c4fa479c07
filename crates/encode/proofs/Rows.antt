-- The rows of base symbols: the data's columns are themselves, a parity column is a sum of weighted data columns.
use mathlib.Core.Path.{◌≡◌, sym, ap, ap₂, ◌∙◌}
use mathlib.Core.List.{List, ◌++◌, append_assoc}
use Prim.Native.Nat.{ℕ, ◌+◌, ◌*◌, ◌/◌, ◌%◌, ◌<◌}
use native.Mathlib.Nat.{div-add-mod', div-lt_iff_lt-mul, add-mul, mul_assoc}
use native.Mathlib.Numerals.{add-one}
use native.Mathlib.Omega.{arith}
use lib.ListN.{length, get_or, take}
use lib.Seq.{take_at, take_all}
use Rattle.lists.proofs.Listed.{listed_ext}
use Rattle.algebra.specs.Sum.{sum}
use Rattle.algebra.specs.Weight.{weight}
use Rattle.algebra.proofs.Sum.{sum_ext}
use Rattle.strips.specs.Strips.{combination_of}
use Rattle.document.specs.declared.Profile.{Profile}
use Rattle.document.specs.declared.Place.{Place}
use Rattle.document.specs.Profile.{Accepted}
use Rattle.document.specs.Places.{place}
use Rattle.document.specs.ByteField.{bytes, Byte, byte, number}
use Rattle.document.specs.Encoding.{start, byte_at, base_at, laid_out, column_of}
use Rattle.document.proofs.ByteField.{number_byte, byte_number}
use Rattle.coefficients.proofs.Combination.{sum_bytes}
use Rattle.document.proofs.Bounds.{A>0}
use Rattle.document.proofs.Rows.{row_data}
use Rattle.document.proofs.Arrays.{laid_length, laid_only, laid_next}

module _ (p : Profile) (d : List ℕ) where
  open p use {n, k, a as A, s as S}

  -- the data are the first k columns
  pub data_columns : Accepted p → length d ≡ k * A * S → ((e : ℕ) → get_or d e 0 < 256) → d ≡ laid_out p k (base_at p d)
  unfolding byte_at start
  data_columns acc size small = laid_only p k (base_at p d) d size at
    where
      at : (z b : ℕ) → z < k * A → b < S → get_or d (z * S + b) 0 ≡ number (base_at p d b (place (z / A) (z % A)))
      at z b h l =
          sym (ap number (row_data p d b (z % A) acc (z / A) ((div-lt_iff_lt-mul (A>0 p acc)).1 h))
          ∙ ap (λ (y : ℕ). number (byte (get_or d (y * S + b) 0))) (div-add-mod' z A)
          ∙ number_byte (get_or d (z * S + b) 0) (small (z * S + b)))

  -- a parity column is the combination of the data columns by the weights of its node
  pub parity_column : (j : ℕ) (ws : List ℕ) → length ws ≡ k
      → ((q : ℕ) → q < k → get_or ws q 0 ≡ number (weight bytes k byte q (byte j)))
      → combination_of ws d 0 (A * S) (A * S) ≡ column_of p (base_at p d) j
  unfolding combination_of column_of base_at byte_at start
  parity_column j ws size at = listed_ext (A * S) _ _ (λ o l. sum_bytes ws d (0 + o) (A * S) ∙ ap number (sums o))
    where
      where_is : (q o : ℕ) → 0 + o + q * (A * S) ≡ (q * A + o / S) * S + o % S
      where_is q o = omega (arith, mul_assoc q A S, add-mul (q * A) (o / S) S, div-add-mod' o S)

      sums : (o : ℕ)
          → sum bytes (length ws) (λ q. bytes.mul (byte (get_or d (0 + o + q * (A * S)) 0)) (byte (get_or ws q 0)))
          ≡ base_at p d (o % S) (place j (o / S))
      sums o =
          rw size (sum_ext bytes k (λ q h.
          ap₂ bytes.mul (ap (λ (e : ℕ). byte (get_or d e 0)) (where_is q o))
          (ap byte (at q h) ∙ byte_number (weight bytes k byte q (byte j)))))

-- ---- column after column
module _ (p : Profile) (f : ℕ → Place → Byte) where
  open p use {n, a as A, s as S}

  width : (j : ℕ) → length (laid_out p j f) ≡ j * (A * S)
  width j = laid_length p j f ∙ mul_assoc j A S

  -- the columns before the first parity node
  pub first_columns : (k : ℕ) (ys rest : List ℕ) → ys ≡ laid_out p k f → take (k * (A * S)) (ys ++ rest) ≡ laid_out p k f
  first_columns k ys rest e = take_at ys rest (k * (A * S)) (ap length e ∙ width k) ∙ e

  -- one column more
  pub next_column : (j : ℕ) (xs ys rest : List ℕ) → take (j * (A * S)) xs ≡ laid_out p j f → ys ≡ column_of p f j
      → take ((j + 1) * (A * S)) (take (j * (A * S)) xs ++ (ys ++ rest)) ≡ laid_out p (j + 1) f
  next_column j xs ys rest h e =
      let more : take (j * (A * S)) xs ++ ys ≡ laid_out p (j + 1) f =
      ap₂ (λ (u v : List ℕ). u ++ v) h e ∙ sym (ap (λ (m : ℕ). laid_out p m f) (add-one j) ∙ laid_next p j f) in
      ap (take ((j + 1) * (A * S))) (sym (append_assoc (take (j * (A * S)) xs) ys rest))
      ∙ take_at (take (j * (A * S)) xs ++ ys) rest ((j + 1) * (A * S)) (ap length more ∙ width (j + 1)) ∙ more

  -- all columns
  pub all_columns : (xs : List ℕ) → length xs ≡ n * A * S → take (n * (A * S)) xs ≡ laid_out p n f → xs ≡ laid_out p n f
  all_columns xs size h = sym (take_all (n * (A * S)) xs (omega (arith, mul_assoc n A S))) ∙ h
