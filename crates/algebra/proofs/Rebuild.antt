-- What a rebuild rests on: all encoded arrays with the same symbols at the planned places have the same lost column,
-- the rebuilt one (`column`); and any symbols there stand in some encoded array (`fits`).
use mathlib.Core.Path.{◌≡◌, refl, sym, ap, ap₂, ◌∙◌}
use mathlib.Core.Logic.{◌≢◌, ◌⊎◌, inl, inr}
use Prim.Native.Nat.{ℕ, ◌+◌, ◌*◌, ◌/◌, ◌%◌, ◌≤◌, ◌<◌}
use native.Mathlib.Nat.{div-add-mod', mod-lt, div-lt_iff_lt-mul}
use native.Mathlib.Omega.{arith}
use native.Mathlib.Decide.{ℕ_discrete}
use lib.Arith.{digits_div, digits_lt}
use Rattle.algebra.specs.Field.{Field}
use Rattle.algebra.specs.Pick.{pick}
use Rattle.algebra.specs.Weight.{weight}
use Rattle.algebra.specs.RowCode.{Choice, Codeword}
use Rattle.algebra.specs.Coupling.{Array, partner_node, stored, base}
use Rattle.algebra.specs.Encoding.{Code, Encoded}
use Rattle.algebra.specs.Rebuild.{row_symbol, other_at, rebuilt_at, own, chosen, partner, Agree}
use Rattle.algebra.proofs.Field.{ring, add-zero, zero-mul, mul_inv_left, inv_mul_left}
use Rattle.algebra.proofs.Pick.{pick_yes, pick_no}
use Rattle.algebra.proofs.Sum.{sum_ext}
use Rattle.algebra.proofs.RowCode.{Prescribed, recover, prescribe}
use Rattle.algebra.proofs.Coupling.{
  partner_group,
  partner_local,
  partner_partner,
  stored_partner,
  SamePartner,
  stored_ext,
  base_ext,
  base_stored,
  stored_base,
}

module _ (K : Field) (C : Code K) (f : ℕ) (s : ℕ → ℕ) where
  infixl 65 ◌⊕◌
  infixl 70 ◌⊗◌
  open K use {carrier as F, 𝟘, add as ◌⊕◌, mul as ◌⊗◌, inv}
  open C use {A, n, k, point, θ, some_row, partners, distinct, diagonal, coupled, pairs}

  -- The lost node's local column.
  abbrev c : ℕ
  c = f % A

  -- A local column is below A.
  c<A : c < A
  c<A = mod-lt f some_row

  -- Node i of the lost node's group.
  abbrev member : ℕ → ℕ
  member i = partner_node A i f

  -- The local column of chosen node q, which is the partner's row.
  abbrev local : ℕ → ℕ
  local q = s q % A

  -- The partner's node of row c at chosen node q.
  abbrev opposite : ℕ → ℕ
  opposite q = partner_node A c (s q)

  -- Row c of the base array, for this code, lost node and choice.
  abbrev pub row : Array K → ℕ → F
  row x j = row_symbol K A k point θ f s x j

  -- The other rows at the lost node.
  abbrev other : Array K → ℕ → F
  other x i = other_at K A k point θ f s x i

  -- The rebuilt column.
  abbrev pub rebuilt : Array K → ℕ → F
  rebuilt x i = rebuilt_at K A k point θ f s x i

  -- Arrays that agree at the partner of row c at chosen node q, where it has one.
  pub same_partner : (x y : Array K) (q : ℕ) → (local q ≢ c → x (local q) (opposite q) ≡ y (local q) (opposite q))
      → SamePartner K A θ x y c (s q)
  same_partner x y q h = go (ℕ_discrete (local q) c)
    where
      go : Dec (local q ≡ c) → SamePartner K A θ x y c (s q)
      go (yes e) = rw (e, diagonal c, zero-mul K (x c (opposite q)), zero-mul)
      go (no d) = ap (λ z. θ c (local q) ⊗ z) (h d)

  module _ (x y : Array K) (e : Agree K A k f s x y) where
    -- Row c is computed from the planned places alone.
    row_same : (j : ℕ) → row x j ≡ row y j
    unfolding row_symbol
    row_same j = sum_ext K k (λ q l. ap (λ z. z ⊗ weight K k (λ q. point (s q)) q (point j)) (at q l))
      where
        at : (q : ℕ) → q < k → base K A θ x c (s q) ≡ base K A θ y c (s q)
        at q l = base_ext K A θ x y c (s q) (e _ _ (chosen q l)) (same_partner x y q (λ d. e _ _ (partner q l d)))

    -- The rebuilt column turns on the planned places alone.
    pub rebuilt_same : (i : ℕ) → i < A → rebuilt x i ≡ rebuilt y i
    unfolding rebuilt_at other_at
    rebuilt_same i l = go (ℕ_discrete i c)
      where
        go : (d : Dec (i ≡ c)) → pick d (row x f) (other x i ⊕ θ i c ⊗ row x (member i))
            ≡ pick d (row y f) (other y i ⊕ θ i c ⊗ row y (member i))
        go (yes p) = row_same f
        go (no d) = ap₂ (λ a b. inv (θ c i) ⊗ (a ⊕ b) ⊕ θ i c ⊗ b) (e _ _ (own i l d)) (row_same (member i))

  -- An encoded array with the symbols of x at the planned places.
  abbrev pub Fitting : Array K → Type 0
  Fitting x = (y : Array K) × Encoded K C y × Agree K A k f s y x

  -- At most k nodes that carry what is prescribed in the rows other than c: the lost node, and the opposite node of
  -- each chosen node that is coupled.
  record Carriers : Type 0 where
    count : ℕ
    node : ℕ → ℕ
    few : count ≤ k
    nodes : Choice count n node
    has_lost : (h : ℕ) × (h < count) × (node h ≡ f)
    has_opposite : (q : ℕ) → q < k → local q ≢ c → (h : ℕ) × (h < count) × (node h ≡ opposite q)

  module _ (f<n : f < n) (choice : Choice k n s) where
    -- A word with the base symbols of x at the chosen nodes is row c of x.
    row_of_lem : (x : Array K) {a : ℕ → F} → Codeword K n point k a → ((q : ℕ) → q < k → a (s q) ≡ base K A θ x c (s q))
        → (j : ℕ) → j < n → a j ≡ row x j
    unfolding row_symbol
    row_of_lem x W h j l =
        recover K n point distinct k s choice W j l
        ∙ sum_ext K k (λ q b. ap (λ z. z ⊗ weight K k (λ q. point (s q)) q (point j)) (h q b))

    module _ (x : Array K) (E : Encoded K C x) where
      -- Row c of the base array.
      row_is : (j : ℕ) → j < n → E.symbols c j ≡ row x j
      row_is = row_of_lem x (E.rows c c<A) at
        where
          a : Array K
          a = E.symbols

          at : (q : ℕ) → q < k → a c (s q) ≡ base K A θ x c (s q)
          at q h =
              let there : opposite q < n = partners c (s q) c<A (choice.below q h) in
              sym (base_stored K A θ some_row pairs a c (s q) c<A)
              ∙ base_ext K A θ (stored K A θ a) x c (s q) (sym (E.stores c (s q) c<A (choice.below q h)))
              (same_partner (stored K A θ a) x q
              (λ d. sym (E.stores (local q) (opposite q) (mod-lt (s q) some_row) there)))

      -- The partner's symbol, from a coupled symbol and its own base symbol.
      solve : (p a b : F) → p ≢ 𝟘 → inv p ⊗ (b ⊕ p ⊗ a ⊕ b) ≡ a
      solve p a b d = let e : b ⊕ p ⊗ a ⊕ b ≡ p ⊗ a = simp ring in rw e (inv_mul_left K p a d)

      -- The other rows of the base array, at the lost node.
      other_is : (i : ℕ) → i < A → i ≢ c → E.symbols i f ≡ other x i
      unfolding other_at
      other_is i l d =
          sym
          (ap₂ (λ u v. inv (θ c i) ⊗ (u ⊕ v)) holds (sym (row_is (member i) (partners i f l f<n)))
          ∙ solve (θ c i) (E.symbols i f) (E.symbols c (member i)) (coupled c i c<A l (λ e. d (sym e))))
        where
          holds : x c (member i) ≡ E.symbols c (member i) ⊕ θ c i ⊗ E.symbols i f
          holds = E.stores c (member i) c<A (partners i f l f<n) ∙ stored_partner K A θ E.symbols i f l

      -- The lost column of an encoded array is the one rebuilt from it.
      pub rebuilds : (i : ℕ) → i < A → x i f ≡ rebuilt x i
      unfolding rebuilt_at stored
      rebuilds i l = E.stores i f l f<n ∙ go (ℕ_discrete i c)
        where
          go : (d : Dec (i ≡ c)) → E.symbols i f ⊕ θ i c ⊗ E.symbols c (member i)
              ≡ pick d (row x f) (other x i ⊕ θ i c ⊗ row x (member i))
          go (yes e) = rw (e, diagonal c, zero-mul, add-zero) (row_is f f<n)
          go (no d) = ap₂ (λ u v. u ⊕ θ i c ⊗ v) (other_is i l d) (row_is (member i) (partners i f l f<n))

    -- Every encoded array with the symbols of x at the planned places has the column rebuilt from x.
    pub column : (x y : Array K) → Encoded K C y → Agree K A k f s y x → (i : ℕ) → i < A → y i f ≡ rebuilt x i
    column x y E e i l = rebuilds y E i l ∙ rebuilt_same y x e i l

    module _ (outside : (q : ℕ) → q < k → s q / A ≢ f / A) where
      module _ (R : Carriers) (x : Array K) where
        open R use {count, node, few, nodes, has_lost, has_opposite}

        -- What is prescribed in row i at node j.
        value : ℕ → ℕ → F
        value i j = pick (ℕ_discrete j f) (other x i) (base K A θ x i j)

        -- Row c, prescribed at the chosen nodes.
        word_c : Prescribed K n point distinct k k s (λ q. base K A θ x c (s q))
        word_c = prescribe K n point distinct k k s (omega arith) choice (λ q. base K A θ x c (s q))

        -- Another row, prescribed at the carriers.
        word : (i : ℕ) → Prescribed K n point distinct k count node (λ h. value i (node h))
        word i = prescribe K n point distinct k count node few nodes (λ h. value i (node h))

        -- The base array of these rows.
        symbol : Array K
        symbol i j = pick (ℕ_discrete i c) (word_c.0 j) ((word i).0 j)

        -- Its rows other than c.
        symbol_off : (i j : ℕ) → i ≢ c → symbol i j ≡ (word i).0 j
        unfolding symbol
        symbol_off i j d = pick_no (ℕ_discrete i c) _ _ d

        -- Every row is a word of the row code.
        symbol_word : (i : ℕ) → i < A → Codeword K n point k (symbol i)
        unfolding symbol
        symbol_word i l = go (ℕ_discrete i c)
          where
            go : (d : Dec (i ≡ c)) → Codeword K n point k (λ j. pick d (word_c.0 j) ((word i).0 j))
            go (yes e) = word_c.1
            go (no d) = (word i).1

        -- Row c has the base symbols of x at the chosen nodes.
        symbol_chosen : (q : ℕ) → q < k → symbol c (s q) ≡ base K A θ x c (s q)
        unfolding symbol
        symbol_chosen q l = pick_yes (ℕ_discrete c c) _ _ refl ∙ word_c.2 q l

        -- So row c is that of x at every node.
        symbol_row : (j : ℕ) → j < n → symbol c j ≡ row x j
        symbol_row = row_of_lem x (symbol_word c c<A) symbol_chosen

        -- The other rows have, at the lost node, what a rebuild from x gives.
        symbol_lost : (i : ℕ) → i ≢ c → symbol i f ≡ other x i
        unfolding value
        symbol_lost i d = go has_lost
          where
            go : (h : ℕ) × (h < count) × (node h ≡ f) → symbol i f ≡ other x i
            go (h, l, e) = symbol_off i f d ∙ (rw e at ((word i).2 h l)) ∙ pick_yes (ℕ_discrete f f) _ _ refl

        -- The other rows have, at the opposite nodes, the base symbols of x.
        symbol_opposite : (q : ℕ) → q < k → local q ≢ c
            → symbol (local q) (opposite q) ≡ base K A θ x (local q) (opposite q)
        unfolding value
        symbol_opposite q l d = go (has_opposite q l d)
          where
            off_lost : opposite q ≢ f
            off_lost e = outside q l (sym (partner_group A c (s q) c<A) ∙ ap (λ z. z / A) e)

            go : (h : ℕ) × (h < count) × (node h ≡ opposite q)
                → symbol (local q) (opposite q) ≡ base K A θ x (local q) (opposite q)
            go (h, b, e) =
                symbol_off (local q) (opposite q) d ∙ (rw e at ((word (local q)).2 h b))
                ∙ pick_no (ℕ_discrete (opposite q) f) _ _ off_lost

        -- What is stored for it in row c of the lost group is what x has there.
        fits_own : (i : ℕ) → i < A → i ≢ c → stored K A θ symbol c (member i) ≡ x c (member i)
        unfolding other_at
        fits_own i l d =
            stored_partner K A θ symbol i f l
            ∙ ap₂ (λ y z. y ⊕ θ c i ⊗ z) (symbol_row (member i) (partners i f l f<n)) (symbol_lost i d)
            ∙ ap (λ z. row x (member i) ⊕ z)
            (mul_inv_left K (θ c i) (x c (member i) ⊕ row x (member i)) (coupled c i c<A l (λ e. d (sym e))))
            ∙ cancel (x c (member i)) (row x (member i))
          where
            cancel : (a b : F) → b ⊕ (a ⊕ b) ≡ a
            cancel a b = simp ring

        -- The same at the chosen nodes.
        fits_chosen : (q : ℕ) → q < k → stored K A θ symbol c (s q) ≡ x c (s q)
        fits_chosen q l =
            stored_ext K A θ symbol (base K A θ x) c (s q) (symbol_chosen q l)
            (same_partner symbol (base K A θ x) q (symbol_opposite q l))
            ∙ stored_base K A θ some_row pairs x c (s q) c<A

        -- The same at their partners.
        fits_partner : (q : ℕ) → q < k → local q ≢ c
            → stored K A θ symbol (local q) (opposite q) ≡ x (local q) (opposite q)
        fits_partner q l d =
            stored_ext K A θ symbol (base K A θ x) (local q) (opposite q) (symbol_opposite q l d)
            (rw (partner_local A c (s q) c<A, partner_partner A c (s q) c<A)
            (ap (λ z. θ (local q) c ⊗ z) (symbol_chosen q l)))
            ∙ stored_base K A θ some_row pairs x (local q) (opposite q) (mod-lt (s q) some_row)

        -- So it is at all planned places.
        agrees : Agree K A k f s (stored K A θ symbol) x
        agrees i j (own p l d) = fits_own p l d
        agrees i j (chosen q l) = fits_chosen q l
        agrees i j (partner q l d) = fits_partner q l d

        -- An encoded array with the symbols of x at the planned places.
        fitting : Fitting x
        fitting =
            (stored K A θ symbol, record { symbols = symbol; rows = symbol_word; stores = λ i j l h. refl }, agrees)

    -- Any symbols at the planned places stand in an encoded array, where there are no more groups than k, or only nodes
    -- with the lost node's local column are chosen.
    pub fits : (G : ℕ) → n ≡ G * A → 0 < k → ((q : ℕ) → q < k → s q / A ≢ f / A)
        → (G ≤ k) ⊎ ((q : ℕ) → q < k → s q % A ≡ c) → (x : Array K) → Fitting x
    fits G n_is k>0 outside shape x = fitting outside (carriers shape) x
      where
        group : (j : ℕ) → j < n → j / A < G
        group j l = (div-lt_iff_lt-mul some_row).1 (rw n_is at l)

        all : ℕ → ℕ
        all g = g * A + c

        all_apart : (g h : ℕ) → g ≢ h → all g ≢ all h
        all_apart g h d e = d (sym (digits_div g c<A) ∙ ap (λ z. z / A) e ∙ digits_div h c<A)

        carriers : (G ≤ k) ⊎ ((q : ℕ) → q < k → s q % A ≡ c) → Carriers
        carriers (inl le) = record {
          count = G;
          node = all;
          few = le;
          nodes = record { below = λ g l. rw n_is (digits_lt l c<A); apart = λ g h l b. all_apart g h (omega arith) };
          has_lost = (f / A, group f f<n, div-add-mod' f A);
          has_opposite = λ q l d. (s q / A, group (s q) (choice.below q l), refl);
        }
        carriers (inr same) = record {
          count = 1;
          node = λ h. f;
          few = k>0;
          nodes = record { below = λ g l. f<n; apart = λ g h l b. absurd (omega arith) };
          has_lost = (0, omega arith, refl);
          has_opposite = λ q l d. absurd (d (same q l));
        }
