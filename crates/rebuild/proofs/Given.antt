-- What is given for the planned places: where a node's places stand in the plan, and the strip folded from there.
use mathlib.Core.Path.{◌≡◌, sym, ap, ap₂, ◌∙◌}
use mathlib.Core.Bool.{true, false}
use mathlib.Core.List.{List, [], ◌∷◌, ◌++◌}
use Prim.Native.Nat.{ℕ, ◌+◌, ◌-◌, ◌*◌, ◌%◌, ◌≤◌, ◌<◌}
use native.Mathlib.Nat.{add-zero}
use native.Mathlib.Omega.{arith}
use lib.ListN.{length, get_or, take, drop, length-append}
use lib.Seq.{get_or-append-add}
use Rattle.lists.specs.Each.{Distinct}
use Rattle.gf256.specs.Field as G
use Rattle.strips.specs.Strips.{strip_at, added_scaled}
use Rattle.strips.proofs.Added.{added_strips}
use Rattle.strips.proofs.Strip.{strip_part}
use Rattle.document.specs.declared.Profile.{Profile}
use Rattle.document.specs.declared.Node.{Node}
use Rattle.document.specs.declared.Place.{Place}
use Rattle.document.specs.Profile.{Accepted}
use Rattle.document.specs.Places.{place, partner_of}
use Rattle.document.specs.Encoding.{factor_at}
use Rattle.document.specs.ByteField.{Byte, byte, number}
use Rattle.document.specs.Plan.{is_off_diagonal, row_at, walk_of, nodes_over, planned, planned_at}
use Rattle.document.specs.Rebuild.{position_of, given_at}
use Rattle.document.proofs.ByteField.{number_byte, number_add, number_mul}
use Rattle.document.proofs.Bounds.{A>0}
use Rattle.document.proofs.Walks.{walk_sound, planned_over}
use Rattle.document.proofs.Planned.{over_distinct}
use Rattle.document.proofs.Chosen.{position_at}
use Rattle.plan.specs.Steps.{places_at, places_of}
use Rattle.plan.proofs.Places.{single, pair, split_places}
use Rattle.plan.proofs.Walked.{plan_places}
use Rattle.rebuild.specs.Folded.{folded_of, StripsFit, NodeAt}
use Rattle.rebuild.proofs.Folded.{folded_single, folded_pair, folded_one}

-- how many places are read at a node
module _ (A : ℕ) (f : Node) (j m : ℕ) where
  pub one_place : is_off_diagonal A f j ≡ false → m + 1 ≡ m + length (places_at A f j)
  one_place e = ap (λ (qs : List Place). m + length qs) (sym (single A f j e))

  pub two_places : is_off_diagonal A f j ≡ true → m + 2 ≡ m + length (places_at A f j)
  two_places e = ap (λ (qs : List Place). m + length qs) (sym (pair A f j e))

-- the strips that are read at node j lie within src, and are its parts there
module _ (p : Profile) (f : Node) (src : List ℕ) (first stride : ℕ) (fit : StripsFit p f src first stride)
    (j m : ℕ) (at : NodeAt p f j m) where
  open p use {a as A, s as S}

  abbrev part : ℕ → List ℕ
  part from = take (from + S - from) (drop from src)

  pub own_within : first + m * stride + S ≤ length src
  unfolding places_at
  own_within = fit.reach m (omega (arith, at.inside))

  pub own_part : part (first + m * stride) ≡ strip_at src (first + m * stride) S
  own_part = strip_part src (first + m * stride) S own_within

  module _ (e : is_off_diagonal A f j ≡ true) where
    pub partner_within : first + (m + 1) * stride + S ≤ length src
    partner_within = fit.reach (m + 1) (omega (arith, two_places A f j m e, at.inside))

    pub partner_part : part (first + (m + 1) * stride) ≡ strip_at src (first + (m + 1) * stride) S
    partner_part = strip_part src (first + (m + 1) * stride) S partner_within

module _ (p : Profile) (acc : Accepted p) (f : Node) where
  open p use {n, k, a as A, s as S}

  -- ---- where the nodes' places stand
  module _ (h : f.0 < n) (js : List ℕ) (nodes : js ≡ nodes_over k (walk_of p f)) (i : ℕ) (l : i < length js) where
    abbrev j : ℕ
    j = get_or js i 0

    abbrev before : List Place
    before = places_of A f (take i js)

    abbrev after : List Place
    after = places_of A f (drop (i + 1) js)

    split : planned p f ≡ before ++ (places_at A f j ++ after)
    split = sym (ap (places_of A f) nodes ∙ plan_places p acc f h) ∙ split_places A f js i l

    planned_at_lem : (o : ℕ) → planned_at p f (length before + o) ≡ get_or (places_at A f j ++ after) o (place 0 0)
    unfolding planned_at
    planned_at_lem o =
        ap (λ (qs : List Place). get_or qs (length before + o) (place 0 0)) split
        ∙ get_or-append-add before (places_at A f j ++ after) o (place 0 0)

    pub node_at : NodeAt p f j (length before)
    unfolding places_at
    node_at = record {
      row = ap (planned_at p f) (sym (add-zero (length before))) ∙ planned_at_lem 0;
      partner = λ e. planned_at_lem 1 ∙ ap (λ (qs : List Place). get_or (qs ++ after) 1 (place 0 0)) (pair A f j e);
      inside = omega (arith, simp length-append at (ap length split));
    }

  -- ---- what is given there
  plan_distinct : f.0 < n → Distinct (planned p f)
  plan_distinct h = rw planned_over (over_distinct A (A>0 p acc) k f (walk_of p f) (walk_sound p acc f h))

  module _ (below : f.0 < n) (src : List ℕ) (small : (e : ℕ) → get_or src e 0 < 256) (first stride : ℕ) where
    abbrev x : ℕ → Place → Byte
    x = given_at (planned p f) src first stride

    given : (m : ℕ) (q : Place) → m < length (planned p f) → planned_at p f m ≡ q
        → (b : ℕ) → number (x b q) ≡ get_or src (first + m * stride + b) 0
    unfolding given_at planned_at
    given m q h e b =
        ap (λ (r : Place). number (byte (get_or src (first + position_of r (planned p f) * stride + b) 0))) (sym e)
        ∙ ap (λ (i : ℕ). number (byte (get_or src (first + i * stride + b) 0)))
        (position_at (place 0 0) (plan_distinct below) m h)
        ∙ number_byte _ (small _)

    module _ (j m : ℕ) (at : NodeAt p f j m) where
      abbrev q : Place
      q = row_at A f j

      abbrev c : Byte
      c = factor_at p (f.0 % A) (j % A)

      pub single_folded : is_off_diagonal A f j ≡ false → strip_at src (first + m * stride) S ≡ folded_of p f x (j ∷ [])
      unfolding strip_at
      single_folded e =
          folded_one p f x j _ (λ b l.
          sym (ap number (folded_single p f x b j e)
          ∙ given m q (omega (arith, one_place A f j m e, at.inside)) at.row b))

      pub pair_folded : is_off_diagonal A f j ≡ true
          → added_scaled (number c) 0 (strip_at src (first + (m + 1) * stride) S) (strip_at src (first + m * stride) S)
          ≡ folded_of p f x (j ∷ [])
      pair_folded e =
          added_strips (number c) src (first + m * stride) (first + (m + 1) * stride) S
          ∙ folded_one p f x j _ (λ b l.
          sym (ap number (folded_pair p f x b j e)
          ∙ number_add _ _
          ∙ ap₂ G.◌⊕◌ (given m q (omega (arith, two, at.inside)) at.row b)
          (number_mul _ _
          ∙ ap (G.◌⊗◌ (number c)) (given (m + 1) (partner_of A q) (omega (arith, two, at.inside)) (at.partner e) b))))
        where
          two : m + 2 ≡ m + length (places_at A f j)
          two = two_places A f j m e
