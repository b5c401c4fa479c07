-- Encoding: demand 1, and demand 2, first sentence: the encoded array is what document 01 defines, nothing else is, and
-- encoding writes it.
use Rattle.std.specs.Prelude.{Ok}
use mathlib.Core.Path.{◌≡◌, refl, sym, ◌∙◌}
use mathlib.Core.Bool.{◌&&◌}
use mathlib.Core.List.{List, [], ◌∷◌}
use Prim.Native.Nat.{ℕ, ◌+◌, ◌*◌, ◌/◌, ◌%◌, ◌<◌}
use native.Mathlib.Decide.{ℕ_discrete, dec_lt}
use native.Mathlib.Omega.{arith}
use lib.Dec.{eqb}
use lib.ListN.{length}
use Rattle.algebra.specs.Polynomial.{eval}
use Rattle.algebra.specs.RowCode.{Choice, Codeword}
use Rattle.algebra.proofs.RowCode.{determined}
use Rattle.document.specs.declared.Numbers.{Numbers}
use Rattle.document.specs.declared.Profile.{Profile}
use Rattle.document.specs.declared.Place.{Place}
use Rattle.document.specs.declared.Refusal.TheVariants.{BufferLength}
use Rattle.document.specs.Refusals.{number_of, index_of, answer_value, Decides}
use Rattle.document.specs.Profile.{Accepted, profile_of}
use Rattle.document.specs.Places.{place, partner_of, Within}
use Rattle.document.specs.ByteField.{bytes, Byte, byte}
use Rattle.document.specs.Encoding.{
  byte_at,
  base_at,
  constant_of,
  coupled_at,
  laid_out,
  encoded,
  encode_tests,
  encode_with,
  encode_of,
}
use Rattle.document.proofs.ByteField.{points_distinct}
use Rattle.document.proofs.Bounds.{partner_within}
use Rattle.document.proofs.Rows.{row_word, row_data}
use Rattle.document.proofs.Arrays.{
  laid_byte,
  laid_bytes,
  laid_ext,
  encoded_stored,
  coupled_diagonal,
  coupled_upper,
  coupled_lower,
  coupled_ext,
}
use Rattle.document.proofs.Decides.{decides_eq, decides_both, decides_not, decided}
use Rattle.demands.specs.Tables.{Decided, none, line}
use Rattle.demands.specs.Encoding.{
  encode_sentences,
  Demand1Encode,
  DocumentArray,
  OneArray,
  ArrayIsEncoded,
  Demand2Encode,
}
use Rattle.demands.proofs.Tables.{by_name}
use Rattle.demands.proofs.Profile.{Granted, CallFor, call_for}

-- ---- the call
abbrev Sizes : Profile → List ℕ → List ℕ → Type 0
Sizes p d x = (length d ≡ p.k * p.a * p.s) × (length x ≡ p.n * p.a * p.s)

decides_sizes : (p : Profile) (d x : List ℕ)
    → Decides (eqb (length d) (p.k * p.a * p.s) && eqb (length x) (p.n * p.a * p.s)) (Sizes p d x)
decides_sizes p d x = decides_both _ _ (decides_eq (length d) _) (decides_eq (length x) _)

encode_decided : (p : Profile) (d x : List ℕ) → Decided (encode_tests p d x) (encode_sentences p d x)
unfolding encode_tests encode_sentences
encode_decided p d x = line refl (decides_not _ (decides_sizes p d x)) (λ l. none)

module _ (p : Numbers) (d x : List ℕ) where
  encode_call : CallFor p (λ p. encode_tests p d x) (λ p. encode_sentences p d x) ((5, 0) ∷ []) x (encode_of p d x)
      (Ok 0, encoded (profile_of p) d)
  unfolding encode_of encode_with encode_sentences number_of index_of
  encode_call =
      call_for p x (λ p. encode_tests p d x) (λ p. encode_sentences p d x) (λ p. 0) (λ p. encoded p d)
      (λ acc. encode_decided _ d x) refl

  pub demand_1_encode : Demand1Encode p d x
  demand_1_encode = encode_call.exactly

-- ---- the encoded array
module _ (p : Profile) where
  open p use {n, k, a as A, s as S}

  -- byte b of what is stored at a place for the data d
  abbrev stored_at : List ℕ → ℕ → Place → Byte
  stored_at d b = coupled_at p (base_at p d b)

  module _ (acc : Accepted p) (d : List ℕ) where
    -- The encoded array is the array that document 01 defines.
    pub encoded_is : length d ≡ k * A * S → DocumentArray p d (encoded p d)
    unfolding encoded constant_of
    encoded_is size = record {
      data_size = size;
      base = base_at p d;
      coefficients = λ b i. (row_word p d b i).poly.coefficients;
      stored = encoded_stored p d;
      degree = λ b i l r. (row_word p d b i).poly.degree;
      values = λ b i j l r h. (row_word p d b i).at j h ∙ (row_word p d b i).poly.value (byte j);
      given = λ b i j l r h. row_data p d b i acc j h;
      diagonal = λ b i j l r h e. holds b i j l r h ∙ coupled_diagonal p (base_at p d b) j i e;
      upper = λ b i j l r h e. holds b i j l r h ∙ coupled_upper p (base_at p d b) j i e;
      lower = λ b i j l r h e. holds b i j l r h ∙ coupled_lower p (base_at p d b) j i e;
    }
      where
        holds : (b i j : ℕ) → b < S → i < A → j < n
            → byte_at p (laid_out p n (stored_at d)) b (place j i) ≡ stored_at d b (place j i)
        holds b i j l r h = laid_byte p n (stored_at d) b j i l h r

    module _ (x : List ℕ) (D : DocumentArray p d x) where
      -- the data fix the base symbols
      base_only : (b i j : ℕ) → b < S → i < A → j < n → D.base b (place j i) ≡ base_at p d b (place j i)
      base_only b i j l r =
          determined bytes n byte (points_distinct n (omega (arith, acc.shape.few_nodes))) k (λ q. q) data_nodes_lem
          word (row_word p d b i) (λ q m. D.given b i q l r m ∙ sym (row_data p d b i acc q m)) j
        where
          data_nodes_lem : Choice k n (λ q. q)
          data_nodes_lem = record { below = λ q m. omega (arith, acc.shape.some_parity); apart = λ q m u v. omega arith }

          word : Codeword bytes n byte k (λ j. D.base b (place j i))
          word = record {
            polynomial = eval bytes (D.coefficients b i);
            poly = record { coefficients = D.coefficients b i; degree = D.degree b i l r; value = λ z. refl };
            at = λ j h. D.values b i j l r h;
          }

      -- what x holds at a place is its base symbols coupled
      holds : (b i j : ℕ) → b < S → i < A → j < n → byte_at p x b (place j i) ≡ coupled_at p (D.base b) (place j i)
      unfolding constant_of
      holds b i j l r h = go (ℕ_discrete i (j % A)) (dec_lt i (j % A))
        where
          go : Dec (i ≡ j % A) → Dec (i < j % A) → byte_at p x b (place j i) ≡ coupled_at p (D.base b) (place j i)
          go (yes e) m = D.diagonal b i j l r h e ∙ sym (coupled_diagonal p (D.base b) j i e)
          go (no e) (yes m) = D.upper b i j l r h m ∙ sym (coupled_upper p (D.base b) j i m)
          go (no e) (no m) =
              let above : j % A < i = omega arith in
              D.lower b i j l r h above ∙ sym (coupled_lower p (D.base b) j i above)

      -- No other list is.
      pub encoded_only : x ≡ encoded p d
      unfolding encoded
      encoded_only =
          laid_bytes p n x D.stored.size D.stored.bytes_only ∙ laid_ext p n (byte_at p x) (stored_at d) same
        where
          same : (b j i : ℕ) → b < S → j < n → i < A → byte_at p x b (place j i) ≡ stored_at d b (place j i)
          same b j i l h r =
              holds b i j l r h
              ∙ coupled_ext p (D.base b) (base_at p d b) (place j i) (base_only b i j l r h)
              (base_only b (j % A) (j / A * A + i) l partner.row partner.node)
            where
              partner : Within p (partner_of A (place j i))
              partner = partner_within p acc (place j i) (record { node = h; row = r })

-- Two such arrays are one.
pub one_array : OneArray
one_array p acc d x y X Y = encoded_only p acc d x X ∙ sym (encoded_only p acc d y Y)

-- It is the encoded array.
pub array_is_encoded : ArrayIsEncoded
array_is_encoded p acc d x size = (encoded_only p acc d x, λ same. rw same (encoded_is p acc d size))

-- Encoding writes it.
pub demand_2_encode : Demand2Encode
unfolding encode_sentences answer_value
demand_2_encode p d x e =
    (rw granted.is_done refl, rw granted.is_done (encoded_is (profile_of p) granted.accepted d sizes.0))
  where
    granted : Granted p (encode_sentences (profile_of p) d x) (encode_of p d x) (Ok 0, encoded (profile_of p) d)
    granted = (encode_call p d x).granted e

    sizes : Sizes (profile_of p) d x
    sizes = decided _ (decides_sizes (profile_of p) d x) (λ n. granted.refuted {r = BufferLength} (search by_name))
