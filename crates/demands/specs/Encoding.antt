-- Encoding: when it is refused, and demand 2, first sentence: 'Encoding writes the array that document 01 defines.'
--
-- encode_sentences p d x : the lines for encoding the data d into x, past those of a profile
-- Demand1Encode p d x   : encoding refuses as they say                                              demand_1_encode
-- DocumentArray p d x   : x is the array that document 01 defines for the data d, in the profile p
-- OneArray              : it is the only one                                                        one_array
-- ArrayIsEncoded        : it is `encoded p d` of document/specs/Encoding.antt, which computes        array_is_encoded
-- Demand2Encode         : encoding that is not refused writes it                                    demand_2_encode
-- Shown in proofs/Encoding.antt, under the name beside each.
--
-- In DocumentArray b is a byte offset of a strip, i a row, j a node, j % A its local column l. The words it uses:
-- byte_at p x b q : byte b of the strip at the place q of the array or data x
-- place j i      : the place of node j, row i
-- partner_of A q  : the partner of the place q
-- byte j         : the field element with the number j
-- eval bytes c z : the value at z of the polynomial with the coefficients c, constant term first
use Rattle.std.specs.Prelude.{◌≡◌, ◌↔◌, List, [], ◌∷◌, ℕ, ◌*◌, ◌%◌, ◌≤◌, ◌<◌, length}
use Rattle.algebra.specs.Polynomial.{eval}
use Rattle.document.specs.declared.Numbers.{Numbers}
use Rattle.document.specs.declared.Profile.{Profile}
use Rattle.document.specs.declared.Place.{Place}
use Rattle.document.specs.declared.Refusal.TheVariants.{BufferLength}
use Rattle.document.specs.Refusals.{answer_number, answer_value}
use Rattle.document.specs.Places.{place, partner_of}
use Rattle.document.specs.ByteField.{bytes, Byte, byte}
use Rattle.document.specs.Profile.{Accepted, profile_of}
use Rattle.document.specs.Encoding.{byte_at, Stored, encoded, encode_tests, encode_of}
use Rattle.demands.specs.Tables.{Sentence}
use Rattle.demands.specs.Profile.{Demand1For}

infixl 65 ◌⊕◌
infixl 70 ◌⊗◌
open bytes use {add as ◌⊕◌, mul as ◌⊗◌}

-- 5: 'a lent buffer .. has the wrong length': data have kAS bytes, an array nAS.
unfoldable pub encode_sentences : Profile → List ℕ → List ℕ → List Sentence
encode_sentences p d x =
    record {
      refusal = BufferLength;
      says = (length d ≡ p.k * p.a * p.s) × (length x ≡ p.n * p.a * p.s) → ⊥;
    }
    ∷ []

abbrev pub Demand1Encode : Numbers → List ℕ → List ℕ → Type 1
Demand1Encode p d x =
    Demand1For p (λ p. encode_tests p d x) (λ p. encode_sentences p d x) ((5, 0) ∷ []) x (encode_of p d x)

module _ (p : Profile) (d x : List ℕ) where
  open p use {n, k, a as A, t, s as S}

  -- 'all rules below hold at each byte offset of a strip on its own'
  pub record DocumentArray : Type 0 where
    -- The base symbols a(i,j) at each byte offset.
    pub base : ℕ → Place → Byte
    -- The coefficients of one polynomial for each byte offset and row.
    pub coefficients : ℕ → ℕ → List Byte
    -- 'data use the same order with j < k': kAS bytes
    pub data_size : length d ≡ k * A * S
    -- 'A stored array is any nAS bytes.'
    pub stored : Stored p x
    -- 'One row of base symbols .. is the list of values, at the points 0..n-1, of a polynomial of degree below k.'
    pub degree : (b i : ℕ) → b < S → i < A → length (coefficients b i) ≤ k
    pub values : (b i j : ℕ) → b < S → i < A → j < n → base b (place j i) ≡ eval bytes (coefficients b i) (byte j)
    -- 'The data are the symbols with j < k, free.'
    pub given : (b i j : ℕ) → b < S → i < A → j < k → base b (place j i) ≡ byte_at p d b (place j i)
    -- 'The stored strip x(i,j) is: a(i,j) where i = l;'
    pub diagonal : (b i j : ℕ) → b < S → i < A → j < n → i ≡ j % A → byte_at p x b (place j i) ≡ base b (place j i)
    -- 'a(i,j) + a(partner) where i < l;'
    pub upper : (b i j : ℕ) → b < S → i < A → j < n → i < j % A
        → byte_at p x b (place j i) ≡ base b (place j i) ⊕ base b (partner_of A (place j i))
    -- 'a(i,j) + t·a(partner) where i > l.'
    pub lower : (b i j : ℕ) → b < S → i < A → j < n → j % A < i
        → byte_at p x b (place j i) ≡ base b (place j i) ⊕ byte t ⊗ base b (partner_of A (place j i))

-- For an accepted profile, two arrays of the same data that are as document 01 says are the same array.
abbrev pub OneArray : Type 0
OneArray = (p : Profile) → Accepted p → (d x y : List ℕ) → DocumentArray p d x → DocumentArray p d y → x ≡ y

-- The array that document 01 defines is the one that is computed by Lagrange's formula.
abbrev pub ArrayIsEncoded : Type 0
ArrayIsEncoded =
    (p : Profile) → Accepted p → (d x : List ℕ) → length d ≡ p.k * p.a * p.s
    → DocumentArray p d x ↔ (x ≡ encoded p d)

-- 'Encoding writes the array that document 01 defines.' 'On success the answer is 0, with .. 0 otherwise.'
abbrev pub Demand2Encode : Type 0
Demand2Encode =
    (p : Numbers) (d x : List ℕ) → answer_number (encode_of p d x).0 ≡ 0
    → (answer_value (encode_of p d x).0 ≡ 0) × DocumentArray (profile_of p) d (encode_of p d x).1
