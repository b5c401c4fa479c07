-- Encoding: what is stored for some data is an encoded array, and every encoded array is stored for some data. Each
-- stored symbol is the sum of the data symbols, each times what is stored for the data that are 𝟙 there alone.
use mathlib.Core.Path.{◌≡◌, refl, sym, ap, ap₂, ◌∙◌}
use mathlib.Core.Logic.{◌≢◌}
use Prim.Native.Nat.{ℕ, ◌*◌, ◌%◌, ◌≤◌, ◌<◌}
use native.Mathlib.Nat.{div-lt_iff_lt-mul, mod-lt}
use native.Mathlib.Decide.{ℕ_discrete}
use native.Mathlib.Omega.{arith}
use lib.Arith.{digits_lt}
use Rattle.algebra.specs.Field.{Field}
use Rattle.algebra.specs.Sum.{sum}
use Rattle.algebra.specs.Square.{dot}
use Rattle.algebra.specs.Polynomial.{DistinctPoints}
use Rattle.algebra.specs.Weight.{weight}
use Rattle.algebra.specs.RowCode.{Choice, Codeword}
use Rattle.algebra.specs.Coupling.{Array, partner_node, stored, factor}
use Rattle.algebra.specs.Encoding.{symbols, unit_symbols, encode, Code, Encoded}
use Rattle.algebra.proofs.Field.{mul_comm, mul-zero, zero-mul, mul-one}
use Rattle.algebra.proofs.Sum.{sum_ext, sum_zero, sum_add, sum_scale, sum_one}
use Rattle.algebra.proofs.Square.{dot_combine}
use Rattle.algebra.proofs.Pick.{pick_yes, pick_no}
use Rattle.algebra.proofs.Polynomial.{apart, poly_scale, poly_sum}
use Rattle.algebra.proofs.Weight.{weight_poly, weight_at_lem, weight_off}
use Rattle.algebra.proofs.RowCode.{determined}
use Rattle.algebra.proofs.Coupling.{stored_ext, factor_diagonal, factor_ne, pair_ne}

module _ (K : Field) (k : ℕ) (point : ℕ → K.carrier) where
  infixl 70 ◌⊗◌
  open K use {mul as ◌⊗◌}

  -- The base array has the data at the first k nodes.
  pub symbols_data : DistinctPoints K k point → (d : Array K) (i j : ℕ) → j < k → symbols K k point d i j ≡ d i j
  unfolding symbols
  symbols_data first d i j l =
      sum_one K k j (λ q. d i q ⊗ weight K k point q (point j)) l
      (λ q h m. rw (weight_off K point q k j l (λ e. m (sym e)), mul-zero))
      ∙ rw (weight_at_lem K point j k (apart K k point first j l), mul-one)

  -- Each row of the base array is a word of the row code.
  pub symbols_word : (n : ℕ) (d : Array K) (i : ℕ) → Codeword K n point k (symbols K k point d i)
  unfolding symbols
  symbols_word n d i = record {
    polynomial = λ z. sum K k (λ q. d i q ⊗ weight K k point q z);
    poly = poly_sum K k (λ q z. d i q ⊗ weight K k point q z) (λ q l. poly_scale K (d i q) (weight_poly K point q k l));
    at = λ j l. refl;
  }

  -- A row of the base array turns on that row of the data alone, at the first k nodes.
  symbols_ext : (d e : Array K) (i : ℕ) → ((q : ℕ) → q < k → d i q ≡ e i q)
      → (j : ℕ) → symbols K k point d i j ≡ symbols K k point e i j
  unfolding symbols
  symbols_ext d e i h j = sum_ext K k (λ q l. ap (λ z. z ⊗ weight K k point q (point j)) (h q l))

module _ (K : Field) (k : ℕ) (point : ℕ → K.carrier) (A : ℕ) (d : Array K) where
  infixl 65 ◌⊕◌
  infixl 70 ◌⊗◌
  open K use {carrier as F, add as ◌⊕◌, mul as ◌⊗◌}

  -- A base symbol is the sum of the data symbols, each times the base symbol of the data that are 𝟙 there alone.
  symbols_sum : (i j : ℕ) → i < A
      → symbols K k point d i j ≡ sum K A (λ r. dot K k (λ q. unit_symbols K k point r q i j) (d r))
  unfolding symbols unit_symbols dot
  symbols_sum i j l =
      sum_ext K k
      (λ q h. mul_comm K (d i q) (weight K k point q (point j))
      ∙ ap (λ z. z ⊗ d i q) (sym (pick_yes (ℕ_discrete i i) _ _ refl)))
      ∙ sym
      (sum_one K A i (λ r. dot K k (λ q. unit_symbols K k point r q i j) (d r)) l
      (λ r h n. sum_zero K k
      (λ q m. ap (λ z. z ⊗ d r q) (pick_no (ℕ_discrete i r) _ _ (λ e. n (sym e))) ∙ zero-mul K (d r q))))

  -- So is a stored symbol, with what is stored for those data.
  pub stored_sum : 0 < A → (θ : ℕ → ℕ → F) (i j : ℕ) → i < A
      → stored K A θ (symbols K k point d) i j
      ≡ sum K A (λ r. sum K k (λ q. stored K A θ (unit_symbols K k point r q) i j ⊗ d r q))
  unfolding stored dot
  stored_sum A>0 θ i j l =
      ap₂ (λ x y. x ⊕ c ⊗ y) (symbols_sum i j l) (symbols_sum (j % A) (partner_node A i j) (mod-lt j A>0))
      ∙ sym
      (sum_ext K A (λ r h. dot_combine K k (own r) (partner r) (d r) c)
      ∙ sum_add K A (λ r. dot K k (own r) (d r)) (λ r. c ⊗ dot K k (partner r) (d r))
      ∙ ap (λ x. sum K A (λ r. dot K k (own r) (d r)) ⊕ x) (sum_scale K A c (λ r. dot K k (partner r) (d r))))
    where
      c : F
      c = θ i (j % A)

      own : ℕ → ℕ → F
      own r q = unit_symbols K k point r q i j

      partner : ℕ → ℕ → F
      partner r q = unit_symbols K k point r q (j % A) (partner_node A i j)

module _ (K : Field) (c : ℕ → ℕ → K.carrier) where
  infixl 70 ◌⊗◌
  open K use {𝟘, 𝟙, mul as ◌⊗◌}

  -- What is stored turns on the data of A rows and k nodes alone.
  pub encode_ext : (A k : ℕ) (point : ℕ → K.carrier) → 0 < A
      → (d e : Array K) → ((i q : ℕ) → i < A → q < k → d i q ≡ e i q)
      → (i j : ℕ) → i < A → encode K c A k point d i j ≡ encode K c A k point e i j
  unfolding encode
  encode_ext A k point A>0 d e h i j l =
      stored_ext K A (factor K c) (symbols K k point d) (symbols K k point e) i j (same i j l)
      (ap (λ z. factor K c i (j % A) ⊗ z) (same (j % A) (partner_node A i j) (mod-lt j A>0)))
    where
      same : (i j : ℕ) → i < A → symbols K k point d i j ≡ symbols K k point e i j
      same i j l = symbols_ext K k point d e i (λ q m. h i q l m) j

  -- n nodes in G groups of A, with different points; the constants of the lower strips are neither 0 nor 1.
  module _ (A n k G : ℕ) (point : ℕ → K.carrier)
      (c≢𝟘 : (i l : ℕ) → i < A → l < i → c i l ≢ 𝟘) (c≢𝟙 : (i l : ℕ) → i < A → l < i → c i l ≢ 𝟙)
      (A>0 : 0 < A) (n_is : n ≡ G * A) (distinct : DistinctPoints K n point) where
    -- The coupled code with document 01's factors.
    abbrev pub code : Code K
    code = record {
      A = A;
      n = n;
      k = k;
      point = point;
      θ = factor K c;
      some_row = A>0;
      partners = λ i j l h. rw n_is (digits_lt ((div-lt_iff_lt-mul A>0).1 (rw n_is at h)) l);
      distinct = distinct;
      diagonal = factor_diagonal K c;
      coupled = factor_ne K c A c≢𝟘;
      pairs = pair_ne K c A c≢𝟙;
    }

    -- What is stored for any data is an encoded array.
    pub encode_encoded : (d : Array K) → Encoded K code (encode K c A k point d)
    unfolding encode
    encode_encoded d = record {
      symbols = symbols K k point d;
      rows = λ i l. symbols_word K k point n d i;
      stores = λ i j l h. refl;
    }

    -- Every encoded array is stored for its base symbols at the first k nodes.
    pub encoded_encode : k ≤ n → (x : Array K) (E : Encoded K code x) (i j : ℕ) → i < A → j < n
        → x i j ≡ encode K c A k point E.symbols i j
    unfolding encode
    encoded_encode k≤n x E i j l h =
        E.stores i j l h
        ∙ stored_ext K A (factor K c) E.symbols (symbols K k point E.symbols) i j (same i j l h)
        (ap (λ z. factor K c i (j % A) ⊗ z)
        (same (j % A) (partner_node A i j) (mod-lt j A>0) (code.partners i j l h)))
      where
        first : DistinctPoints K k point
        first i j h l = distinct i j h (omega arith)

        data_nodes_lem : Choice k n (λ q. q)
        data_nodes_lem = record { below = λ q b. omega arith; apart = λ p q b c. omega arith }

        same : (i j : ℕ) → i < A → j < n → E.symbols i j ≡ symbols K k point E.symbols i j
        same i j l h =
            determined K n point distinct k (λ q. q) data_nodes_lem (E.rows i l) (symbols_word K k point n E.symbols i)
            (λ q b. sym (symbols_data K k point first E.symbols i q b)) j h
