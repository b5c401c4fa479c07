-- No planned place can be left out: for each there is an encoded array, zero at all the others, whose lost column is
-- not zero.
use mathlib.Core.Path.{◌≡◌, refl, sym, ap, ap₂, ◌∙◌}
use mathlib.Core.Logic.{◌≢◌, ◌⊎◌, inl, inr}
use Prim.Native.Nat.{ℕ, ◌*◌, ◌/◌, ◌%◌, ◌≤◌, ◌<◌}
use native.Mathlib.Nat.{mod-lt}
use native.Mathlib.Omega.{arith}
use native.Mathlib.Decide.{ℕ_discrete, dec_lt}
use Rattle.algebra.specs.Field.{Field}
use Rattle.algebra.specs.Pick.{pick}
use Rattle.algebra.specs.Weight.{weight}
use Rattle.algebra.specs.RowCode.{Choice}
use Rattle.algebra.specs.Coupling.{Array, partner_node, pair, base}
use Rattle.algebra.specs.Encoding.{Code}
use Rattle.algebra.specs.Rebuild.{row_symbol, other_at, rebuilt_at, Planned, own, chosen, partner, Needed}
use Rattle.algebra.proofs.Field.{
  add-zero,
  zero-add,
  zero-mul,
  mul-zero,
  mul-one,
  mul_ne_zero,
  inv_ne_zero,
}
use Rattle.algebra.proofs.Pick.{pick_yes, pick_no}
use Rattle.algebra.proofs.Sum.{sum_one, sum_zero}
use Rattle.algebra.proofs.Polynomial.{apart}
use Rattle.algebra.proofs.Weight.{weight_ne}
use Rattle.algebra.proofs.RowCode.{chosen as chosen_points}
use Rattle.algebra.proofs.Coupling.{partner_group, partner_partner}
use Rattle.algebra.proofs.Rebuild.{row, rebuilt, same_partner, Fitting, column, fits}

module _ (K : Field) where
  open K use {𝟘, 𝟙}

  -- 1 at row a, node b, and 0 elsewhere.
  mark : ℕ → ℕ → Array K
  mark a b i j = pick (ℕ_discrete i a) (pick (ℕ_discrete j b) 𝟙 𝟘) 𝟘

  -- Its value at the mark.
  mark_at : (a b : ℕ) → mark a b a b ≡ 𝟙
  unfolding mark
  mark_at a b = pick_yes (ℕ_discrete a a) _ _ refl ∙ pick_yes (ℕ_discrete b b) _ _ refl

  -- Its values in other rows.
  mark_row : (a b i j : ℕ) → i ≢ a → mark a b i j ≡ 𝟘
  unfolding mark
  mark_row a b i j d = pick_no (ℕ_discrete i a) _ _ d

  -- Its values at other nodes.
  mark_node : (a b i j : ℕ) → j ≢ b → mark a b i j ≡ 𝟘
  unfolding mark
  mark_node a b i j d = go (ℕ_discrete i a)
    where
      go : (q : Dec (i ≡ a)) → pick q (pick (ℕ_discrete j b) 𝟙 𝟘) 𝟘 ≡ 𝟘
      go (yes e) = pick_no (ℕ_discrete j b) _ _ d
      go (no e) = refl

module _ (K : Field) (C : Code K) (f : ℕ) (s : ℕ → ℕ) (f<n : f < C.n) (choice : Choice C.k C.n s)
    (outside : (q : ℕ) → q < C.k → s q / C.A ≢ f / C.A) where
  infixl 65 ◌⊕◌
  infixl 70 ◌⊗◌
  open K use {carrier as F, 𝟘, 𝟙, add as ◌⊕◌, mul as ◌⊗◌, inv, one_ne_zero}
  open C use {A, n, k, point, θ, some_row, distinct, coupled, pairs}

  -- The lost node's local column.
  abbrev c : ℕ
  c = f % A

  -- The local column of chosen node q.
  abbrev local : ℕ → ℕ
  local q = s q % A

  -- The partner's node of row c at chosen node q.
  abbrev opposite : ℕ → ℕ
  opposite q = partner_node A c (s q)

  -- The base symbol of row c at chosen node q.
  abbrev base_at_lem : Array K → ℕ → F
  base_at_lem x q = base K A θ x c (s q)

  -- The column rebuilt from x.
  abbrev lost_column : Array K → ℕ → F
  lost_column x i = rebuilt K C f s x i

  -- A local column is below A.
  c<A : c < A
  c<A = mod-lt f some_row

  -- The same of a chosen node.
  local<A : (q : ℕ) → local q < A
  local<A q = mod-lt (s q) some_row

  -- Different choices are different nodes.
  apart_nodes : (p q : ℕ) → p < k → q < k → p ≢ q → s p ≢ s q
  apart_nodes p q a b d = go (dec_lt p q)
    where
      go : Dec (p < q) → s p ≢ s q
      go (yes l) = choice.apart p q l b
      go (no l) = λ e. choice.apart q p (omega arith) a (sym e)

  -- A partner that is zero, where there is one, adds nothing.
  partner_zero : (x : Array K) (q : ℕ) → (local q ≢ c → x (local q) (opposite q) ≡ 𝟘)
      → θ c (local q) ⊗ x (local q) (opposite q) ≡ 𝟘
  partner_zero x q h = same_partner K C f s x (λ i j. 𝟘) q h ∙ mul-zero K (θ c (local q))

  -- The base symbol is zero where both symbols of the pair are.
  base_zero : (x : Array K) (q : ℕ) → x c (s q) ≡ 𝟘 → (local q ≢ c → x (local q) (opposite q) ≡ 𝟘) → base_at_lem x q ≡ 𝟘
  unfolding base
  base_zero x q e h =
      ap₂ (λ a b. inv (pair K θ c (local q)) ⊗ (a ⊕ b)) e (partner_zero x q h) ∙ rw (add-zero, mul-zero)

  -- Row c is zero where its base symbols are zero at the chosen nodes.
  row_zero : (x : Array K) → ((q : ℕ) → q < k → base_at_lem x q ≡ 𝟘) → (j : ℕ) → row K C f s x j ≡ 𝟘
  unfolding row_symbol
  row_zero x h j =
      sum_zero K k (λ q l. ap (λ z. z ⊗ weight K k (λ q. point (s q)) q (point j)) (h q l) ∙ zero-mul K _)

  -- Just one base symbol of row c that is not zero shows on the lost column, in row c.
  row_one : (x : Array K) (p : ℕ) → p < k → base_at_lem x p ≢ 𝟘 → ((q : ℕ) → q < k → q ≢ p → base_at_lem x q ≡ 𝟘)
      → lost_column x c ≢ 𝟘
  unfolding rebuilt_at row_symbol
  row_one x p l d z e =
      mul_ne_zero K (base_at_lem x p) (w p) d weighs
      (sym (sum_one K k p (λ q. base_at_lem x q ⊗ w q) l (λ q h m. ap (λ b. b ⊗ w q) (z q h m) ∙ zero-mul K (w q)))
      ∙ sym (pick_yes (ℕ_discrete c c) (row K C f s x f) _ refl) ∙ e)
    where
      w : ℕ → F
      w q = weight K k (λ q. point (s q)) q (point f)

      off_lost : (q : ℕ) → q < k → point f ≢ point (s q)
      off_lost q h = apart K n point distinct f f<n (s q) (choice.below q h) (λ e. outside q h (ap (λ z. z / A) e))

      weighs : w p ≢ 𝟘
      weighs =
          weight_ne K (λ q. point (s q)) p (point f) k
          (apart K k (λ q. point (s q)) (chosen_points K n point distinct choice) p l) (λ q h m. off_lost q h)

  -- A mark in the lost group shows in its row of the lost column.
  shows_own : (p : ℕ) → p < A → p ≢ c → lost_column (mark K c (partner_node A p f)) p ≢ 𝟘
  unfolding rebuilt_at other_at
  shows_own p l d e =
      mul_ne_zero K (inv (θ c p)) 𝟙 (inv_ne_zero K (θ c p) (coupled c p c<A l (λ q. d (sym q)))) one_ne_zero
      (sym value ∙ e)
    where
      node : ℕ
      node = partner_node A p f

      x : Array K
      x = mark K c node

      off : (q : ℕ) → q < k → s q ≢ node
      off q h e = outside q h (ap (λ z. z / A) e ∙ partner_group A p f l)

      rows : (j : ℕ) → row K C f s x j ≡ 𝟘
      rows = row_zero x
          (λ q h. base_zero x q (mark_node K c node c (s q) (off q h)) (mark_row K c node (local q) (opposite q)))

      value : lost_column x p ≡ inv (θ c p) ⊗ 𝟙
      value =
          pick_no (ℕ_discrete p c) (row K C f s x f) _ d
          ∙ ap₂ (λ a b. inv (θ c p) ⊗ (a ⊕ b) ⊕ θ p c ⊗ b) (mark_at K c node) (rows node)
          ∙ rw (mul-zero, add-zero K 𝟙, add-zero)

  -- A mark at a chosen node shows in row c.
  shows_chosen : (p : ℕ) → p < k → lost_column (mark K c (s p)) c ≢ 𝟘
  unfolding base
  shows_chosen p l = row_one x p l here
      (λ q h m. base_zero x q (mark_node K c (s p) c (s q) (apart_nodes q p h l m)) (off_row q))
    where
      x : Array K
      x = mark K c (s p)

      off_row : (q : ℕ) → local q ≢ c → x (local q) (opposite q) ≡ 𝟘
      off_row q = mark_row K c (s p) (local q) (opposite q)

      i : F
      i = inv (pair K θ c (local p))

      here : base_at_lem x p ≢ 𝟘
      here e =
          mul_ne_zero K i 𝟙 (inv_ne_zero K _ (pairs c (local p) c<A (local<A p))) one_ne_zero
          (sym (ap₂ (λ a b. i ⊗ (a ⊕ b)) (mark_at K c (s p)) (partner_zero x p (off_row p)) ∙ rw add-zero) ∙ e)

  -- A mark at a partner shows in row c.
  shows_partner : (p : ℕ) → p < k → local p ≢ c → lost_column (mark K (local p) (opposite p)) c ≢ 𝟘
  unfolding base
  shows_partner p l d = row_one x p l here (λ q h m. base_zero x q (off_row q) (λ t. away q h m))
    where
      x : Array K
      x = mark K (local p) (opposite p)

      off_row : (q : ℕ) → x c (s q) ≡ 𝟘
      off_row q = mark_row K (local p) (opposite p) c (s q) (λ e. d (sym e))

      -- one partner for one chosen node: a place and its partner determine each other
      away : (q : ℕ) → q < k → q ≢ p → x (local q) (opposite q) ≡ 𝟘
      away q h m = go (ℕ_discrete (local q) (local p))
        where
          go : Dec (local q ≡ local p) → x (local q) (opposite q) ≡ 𝟘
          go (no e) = mark_row K (local p) (opposite p) (local q) (opposite q) e
          go (yes e) =
              mark_node K (local p) (opposite p) (local q) (opposite q)
              (λ z. apart_nodes q p h l m
              (sym (partner_partner A c (s q) c<A) ∙ ap₂ (partner_node A) e z ∙ partner_partner A c (s p) c<A))

      i : F
      i = inv (pair K θ c (local p))

      here : base_at_lem x p ≢ 𝟘
      here e =
          mul_ne_zero K i (θ c (local p)) (inv_ne_zero K _ (pairs c (local p) c<A (local<A p)))
          (coupled c (local p) c<A (local<A p) (λ z. d (sym z)))
          (sym
          (ap₂ (λ a b. i ⊗ (a ⊕ θ c (local p) ⊗ b)) (off_row p) (mark_at K (local p) (opposite p))
          ∙ rw (zero-add, mul-one))
          ∙ e)

  -- A row of the lost column that is not zero where only the planned place of row a, node b is marked.
  shows : (a b : ℕ) → Planned A k f s a b → (r : ℕ) × (r < A) × (lost_column (mark K a b) r ≢ 𝟘)
  shows a b (own p l d) = (p, l, shows_own p l d)
  shows a b (chosen q l) = (c, c<A, shows_chosen q l)
  shows a b (partner q l d) = (c, c<A, shows_partner q l d)

  -- Every planned place is needed, where any symbols at the planned places stand in some encoded array.
  pub needed : (G : ℕ) → n ≡ G * A → 0 < k → (G ≤ k) ⊎ ((q : ℕ) → q < k → s q % A ≡ f % A)
      → (a b : ℕ) → Planned A k f s a b → Needed K C f s a b
  needed G n_is k>0 shape a b P = go (fits K C f s f<n choice G n_is k>0 outside shape (mark K a b)) (shows a b P)
    where
      go : Fitting K C f s (mark K a b) → (r : ℕ) × (r < A) × (lost_column (mark K a b) r ≢ 𝟘) → Needed K C f s a b
      go (y, E, e) (r, l, d) = record {
        array = y;
        encoded = E;
        zero_off = off;
        at = r;
        below = l;
        nonzero = λ z. d (sym (column K C f s f<n choice (mark K a b) y E e r l) ∙ z);
      }
        where
          off : (i j : ℕ) → Planned A k f s i j → (i ≢ a) ⊎ (j ≢ b) → y i j ≡ 𝟘
          off i j Q (inl m) = e i j Q ∙ mark_row K a b i j m
          off i j Q (inr m) = e i j Q ∙ mark_node K a b i j m
