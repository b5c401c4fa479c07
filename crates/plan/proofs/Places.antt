-- The places read at nodes, and their bytes: of two lists in a row, and of the nodes of each step.
use mathlib.Core.Path.{◌≡◌, refl, sym, ap, ap₂, ◌∙◌}
use mathlib.Core.Bool.{true, false}
use mathlib.Core.List.{List, [], ◌∷◌, ◌++◌, map, append-nil, append_assoc}
use Prim.Native.Nat.{ℕ, ◌+◌, ◌≤◌, ◌<◌}
use native.Mathlib.Numerals.{add-one}
use native.Mathlib.Omega.{arith}
use lib.ListN.{length, get_or, take, drop, length-append, take-append-drop}
use lib.Seq.{take-suc}
use Rattle.lists.specs.Each.{Each, none, also}
use Rattle.document.specs.declared.Node.{Node}
use Rattle.document.specs.declared.Place.{Place}
use Rattle.document.specs.Places.{partner_of}
use Rattle.document.specs.Plan.{is_off_diagonal, row_at, pairs_at, plan_bytes}
use Rattle.document.proofs.PlanBytes.{bytes_append, bytes_length}
use Rattle.plan.specs.Steps.{places_at, places_of}

module _ (A : ℕ) (f : Node) where
  module _ (j : ℕ) where
    pub single : is_off_diagonal A f j ≡ false → places_at A f j ≡ row_at A f j ∷ []
    unfolding places_at
    single e = rw e

    pub pair : is_off_diagonal A f j ≡ true → places_at A f j ≡ row_at A f j ∷ partner_of A (row_at A f j) ∷ []
    unfolding places_at
    pair e = rw e

    -- row c is read at each node
    pub one_fits : 2 ≤ length (plan_bytes (places_at A f j))
    unfolding plan_bytes places_at
    one_fits = omega arith

  pub places_append : (is js : List ℕ) → places_of A f (is ++ js) ≡ places_of A f is ++ places_of A f js
  unfolding places_of
  places_append [] js = refl
  places_append (i ∷ is) js =
      ap (λ (l : List Place). places_at A f i ++ l) (places_append is js)
      ∙ sym (append_assoc (places_at A f i) (places_of A f is) (places_of A f js))

  -- one place is read at a node in f's group or on the diagonal
  pub singles : {js : List ℕ} → Each (λ j. is_off_diagonal A f j ≡ false) js → places_of A f js ≡ map (row_at A f) js
  unfolding places_of
  singles none = refl
  singles (also r rs) = ap₂ ◌++◌ (single _ r) (singles rs)

  -- two at a node off it
  pub pairs : {js : List ℕ} → Each (λ j. is_off_diagonal A f j ≡ true) js → places_of A f js ≡ pairs_at A f js
  unfolding places_of pairs_at
  pairs none = refl
  pairs (also r rs) = ap₂ ◌++◌ (pair _ r) (pairs rs)

  -- ---- the nodes one after the other
  abbrev bytes_of : List ℕ → List ℕ
  bytes_of js = plan_bytes (places_of A f js)

  alone : (j : ℕ) → places_of A f (j ∷ []) ≡ places_at A f j
  unfolding places_of
  alone j = append-nil (places_at A f j)

  module _ (js : List ℕ) (i : ℕ) (h : i < length js) where
    abbrev here : List Place
    here = places_at A f (get_or js i 0)

    pub next_places : places_of A f (take (i + 1) js) ≡ places_of A f (take i js) ++ here
    next_places =
        ap (places_of A f) (rw (add-one, take-suc js i 0))
        ∙ places_append (take i js) (get_or js i 0 ∷ [])
        ∙ ap (λ (l : List Place). places_of A f (take i js) ++ l) (alone (get_or js i 0))

    pub split_places : places_of A f js ≡ places_of A f (take i js) ++ (here ++ places_of A f (drop (i + 1) js))
    split_places =
        ap (places_of A f) (sym (take-append-drop (i + 1) js))
        ∙ places_append (take (i + 1) js) (drop (i + 1) js)
        ∙ ap (λ (l : List Place). l ++ places_of A f (drop (i + 1) js)) next_places
        ∙ append_assoc (places_of A f (take i js)) here (places_of A f (drop (i + 1) js))

    pub next_node : bytes_of (take i js) ++ plan_bytes here ≡ bytes_of (take (i + 1) js)
    next_node = sym (ap plan_bytes next_places ∙ bytes_append (places_of A f (take i js)) here)

    pub next_fits : length (bytes_of (take i js)) + length (plan_bytes here) ≤ length (bytes_of js)
    next_fits =
        rw (bytes_length (places_of A f (take i js)), bytes_length here, bytes_length (places_of A f js))
        (omega (arith, simp length-append at (ap length split_places)))
