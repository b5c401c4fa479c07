-- Each symbol of the lost column is one sum of folded symbols, and what the other node of the group gives.
use mathlib.Core.Path.{◌≡◌, sym, ap, ap₂, ◌∙◌}
use mathlib.Core.Logic.{◌≢◌}
use Prim.Native.Nat.{ℕ, ◌%◌}
use native.Mathlib.Nat.{div-add-mod'}
use native.Mathlib.Decide.{ℕ_discrete}
use Rattle.algebra.specs.Field.{Field}
use Rattle.algebra.specs.Sum.{sum}
use Rattle.algebra.specs.Weight.{weight}
use Rattle.algebra.specs.Coupling.{Array, partner_node, pair, base}
use Rattle.algebra.specs.Rebuild.{row_symbol, other_at, rebuilt_at}
use Rattle.algebra.specs.Rows.{folded, scale, own, coefficient}
use Rattle.algebra.proofs.Field.{ring, zero-add, one-mul, zero-mul, add-zero}
use Rattle.algebra.proofs.Pick.{pick_yes, pick_no}
use Rattle.algebra.proofs.Sum.{sum_ext, sum_scale}

module _ (K : Field) (A k : ℕ) (point : ℕ → K.carrier) (θ : ℕ → ℕ → K.carrier) (f : ℕ) (s : ℕ → ℕ) where
  infixl 65 ◌⊕◌
  infixl 70 ◌⊗◌
  open K use {carrier as F, 𝟙, add as ◌⊕◌, mul as ◌⊗◌, inv}

  -- The lost node's local column.
  abbrev c : ℕ
  c = f % A

  -- Node i of the lost node's group.
  abbrev member : ℕ → ℕ
  member i = partner_node A i f

  -- What chosen node q counts at node j, its determinant divided out.
  abbrev share : ℕ → ℕ → F
  share j q = weight K k (λ q. point (s q)) q (point j) ⊗ inv (pair K θ c (s q % A))

  -- The factors of one term, sorted.
  sort : (a y w d : F) → a ⊗ (d ⊗ y ⊗ w) ≡ y ⊗ (a ⊗ (w ⊗ d))
  sort a y w d = simp ring

  -- A multiple of a symbol of row c, as a sum of folded symbols.
  row_sum : (x : Array K) (a : F) (j : ℕ)
      → a ⊗ row_symbol K A k point θ f s x j ≡ sum K k (λ q. folded K A θ f s x q ⊗ (a ⊗ share j q))
  unfolding row_symbol base folded
  row_sum x a j =
      sym (sum_scale K k a _)
      ∙ sum_ext K k
      (λ q l. sort a (folded K A θ f s x q) (weight K k (λ q. point (s q)) q (point j)) (inv (pair K θ c (s q % A))))

  -- Taken out of the other node's symbol and coupled again: row c comes out twice.
  collect : (d y r t : F) → d ⊗ (y ⊕ r) ⊕ t ⊗ r ≡ d ⊗ y ⊕ (d ⊕ t) ⊗ r
  collect d y r t = simp ring

  module _ (x : Array K) (i : ℕ) where
    -- Row c of the array at node i of the lost group.
    abbrev row : F
    row = row_symbol K A k point θ f s x (member i)

    -- The sum by which the row is made, with the row's scale given.
    abbrev terms : F → F
    terms a = sum K k (λ q. folded K A θ f s x q ⊗ (a ⊗ share (member i) q))

    -- What is to be shown.
    abbrev Rebuilt : Type 0
    Rebuilt =
        rebuilt_at K A k point θ f s x i
        ≡ own K A θ f x i ⊕ sum K k (λ q. folded K A θ f s x q ⊗ coefficient K A k point θ f s i q)

    -- In row c nothing is taken out: the lost node is node c of its group.
    lost_sum : i ≡ c → Rebuilt
    unfolding rebuilt_at own scale coefficient
    lost_sum e =
        pick_yes (ℕ_discrete i c) _ _ e
        ∙ ap (λ j. row_symbol K A k point θ f s x j) (sym (ap (λ l. partner_node A l f) e ∙ div-add-mod' f A))
        ∙ sym (one-mul K row) ∙ row_sum x 𝟙 (member i) ∙ sym (zero-add K (terms 𝟙))
        ∙ sym (ap₂ (λ o a. o ⊕ terms a) (pick_yes (ℕ_discrete i c) _ _ e) (pick_yes (ℕ_discrete i c) _ _ e))

    -- In another row.
    other_sum : i ≢ c → Rebuilt
    unfolding rebuilt_at other_at own scale coefficient
    other_sum d =
        pick_no (ℕ_discrete i c) _ _ d
        ∙ collect (inv (θ c i)) (x c (member i)) row (θ i c)
        ∙ ap (λ r. inv (θ c i) ⊗ x c (member i) ⊕ r) (row_sum x (inv (θ c i) ⊕ θ i c) (member i))
        ∙ sym (ap₂ (λ o a. o ⊕ terms a) (pick_no (ℕ_discrete i c) _ _ d) (pick_no (ℕ_discrete i c) _ _ d))

    -- The rebuilt symbol, as one sum.
    pub rebuilt_sum : rebuilt_at K A k point θ f s x i
        ≡ own K A θ f x i ⊕ sum K k (λ q. folded K A θ f s x q ⊗ coefficient K A k point θ f s i q)
    rebuilt_sum = go (ℕ_discrete i c)
      where
        go : Dec (i ≡ c) → Rebuilt
        go (yes e) = lost_sum e
        go (no d) = other_sum d

module _ (K : Field) (A : ℕ) (θ : ℕ → ℕ → K.carrier) (f : ℕ) (s : ℕ → ℕ) where
  open K use {𝟘}

  -- A chosen node on the diagonal has no partner to take out.
  pub folded_diagonal : ((i : ℕ) → θ i i ≡ 𝟘) → (x : Array K) (q : ℕ) → s q % A ≡ f % A
      → folded K A θ f s x q ≡ x (f % A) (s q)
  unfolding folded
  folded_diagonal diagonal x q e = rw (folded, e, diagonal (f % A), zero-mul, add-zero)
