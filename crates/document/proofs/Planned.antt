-- A plan lists no place twice, and none of the lost node, over any walk whose steps go over the right nodes, none of
-- them twice.
use mathlib.Core.Path.{◌≡◌, refl, sym, ap, subst, ◌∙◌}
use mathlib.Core.Logic.{◌≢◌}
use mathlib.Core.List.{List, ◌++◌, map}
use Prim.Native.Nat.{ℕ, ◌-◌, ◌/◌, ◌%◌, ◌<◌}
use native.Mathlib.Nat.{div-add-mod', mod-lt}
use lib.Arith.{digits_div}
use lib.ListN.{length}
use Rattle.lists.specs.Each.{Each, none, also, Distinct, empty, new}
use Rattle.lists.proofs.Each.{
  each_append,
  each_take,
  each_map,
  each_image,
  each_both,
  distinct_append,
  distinct_take,
  distinct_image,
}
use Rattle.document.specs.declared.Node.{Node}
use Rattle.document.specs.declared.Place.{Place}
use Rattle.document.specs.Refusals.{Decides}
use Rattle.document.specs.Places.{partner_of}
use Rattle.document.specs.Plan.{
  is_own,
  is_diagonal,
  is_off_diagonal,
  row_at,
  pairs_at,
  Walk,
  step_two,
  step_three,
  plan_over,
}
use Rattle.document.proofs.Decides.{decides_eq, decides_both, decides_not}
use Rattle.document.proofs.Walks.{Sound}

-- what the tests of the three steps say
module _ (A : ℕ) (f : Node) (j : ℕ) where
  pub own_is : Decides (is_own A f j) ((j / A ≡ f.0 / A) × (j % A ≢ f.0 % A))
  unfolding is_own
  own_is = decides_both _ _ (decides_eq (j / A) (f.0 / A)) (decides_not _ (decides_eq (j % A) (f.0 % A)))

  diagonal_is : Decides (is_diagonal A f j) ((j / A ≢ f.0 / A) × (j % A ≡ f.0 % A))
  unfolding is_diagonal
  diagonal_is = decides_both _ _ (decides_not _ (decides_eq (j / A) (f.0 / A))) (decides_eq (j % A) (f.0 % A))

  pub off_is : Decides (is_off_diagonal A f j) ((j / A ≢ f.0 / A) × (j % A ≢ f.0 % A))
  unfolding is_off_diagonal
  off_is =
      decides_both _ _ (decides_not _ (decides_eq (j / A) (f.0 / A))) (decides_not _ (decides_eq (j % A) (f.0 % A)))

module _ (A : ℕ) (A>0 : 0 < A) (k : ℕ) (f : Node) where
  -- f's group and local column
  abbrev g : ℕ
  g = f.0 / A

  abbrev c : ℕ
  c = f.0 % A

  c<A : c < A
  c<A = mod-lt f.0 A>0

  -- what holds of both places that each node stands for in step 3
  pub each_pairs : {R : ℕ → Type 0} {S : Place → Type 0}
      → ((j : ℕ) → R j → S (row_at A f j) × S (partner_of A (row_at A f j))) → {js : List ℕ} → Each R js
      → Each S (pairs_at A f js)
  unfolding pairs_at
  each_pairs h none = none
  each_pairs h (also r rs) = also (h _ r).0 (also (h _ r).1 (each_pairs h rs))

  -- the partner of a place lies in the same group
  partner_group : (j : ℕ) → (partner_of A (row_at A f j)).node.0 / A ≡ j / A
  partner_group j = digits_div (j / A) c<A

  row_injective : (x y : ℕ) → row_at A f x ≡ row_at A f y → x ≡ y
  row_injective x y e = ap (λ (q : Place). q.node.0) e

  partner_injective : (x y : ℕ) → partner_of A (row_at A f x) ≡ partner_of A (row_at A f y) → x ≡ y
  partner_injective x y e =
      let groups : x / A ≡ y / A =
      sym (partner_group x) ∙ ap (λ (q : Place). q.node.0 / A) e ∙ partner_group y in
      let columns : x % A ≡ y % A = ap (λ (q : Place). q.row.0) e in
      cc (div-add-mod' x A, div-add-mod' y A)

  -- the partner of an off-diagonal place lies in another row than c
  row_ne_partner : (x y : ℕ) → y % A ≢ c → row_at A f x ≢ partner_of A (row_at A f y)
  row_ne_partner x y h e = h (sym (ap (λ (q : Place). q.row.0) e))

  pairs_distinct : {js : List ℕ} → Each (λ j. j % A ≢ c) js → Distinct js → Distinct (pairs_at A f js)
  unfolding pairs_at
  pairs_distinct none empty = empty
  pairs_distinct (also {x = j} o os) (new d ds) =
      let others : Each (λ y. (y % A ≢ c) × (j ≢ y)) _ = each_both os d in
      new
      (also (row_ne_partner j j o)
      (each_pairs (λ y r. ((λ e. r.1 (row_injective j y e)), row_ne_partner j y r.0)) others))
      (new (each_pairs (λ y r. ((λ e. row_ne_partner y j o (sym e)), λ e. r.1 (partner_injective j y e))) others)
      (pairs_distinct os ds))

  module _ {n : ℕ} (w : Walk) (sound : Sound n A f w) where
    pub own_nodes : Each (λ j. (j / A ≡ g) × (j % A ≢ c)) w.own
    own_nodes = each_map (λ j r. (own_is A f j).0 r.0) sound.own

    pub second_nodes : Each (λ j. (j / A ≢ g) × (j % A ≡ c)) (step_two k w)
    second_nodes = each_take k (each_map (λ j r. (diagonal_is A f j).0 r.0) sound.diagonal)

    pub third_nodes : Each (λ j. (j / A ≢ g) × (j % A ≢ c)) (step_three k w)
    third_nodes = each_take (k - length (step_two k w)) (each_map (λ j r. (off_is A f j).0 r.0) sound.off_diagonal)

    -- steps 2 and 3 stay outside f's group
    outside : Each (λ q. q.node.0 / A ≢ g) (map (row_at A f) (step_two k w) ++ pairs_at A f (step_three k w))
    outside =
        each_append (each_image (row_at A f) (λ j r. r.0) second_nodes)
        (each_pairs (λ j r. (r.0, λ e. r.0 (sym (partner_group j) ∙ e))) third_nodes)

    pub over_off_lost : Each (λ q. q.node.0 ≢ f.0) (plan_over A k f w)
    unfolding plan_over
    over_off_lost =
        each_append (each_image (row_at A f) (λ j r e. r.1 (ap (λ (m : ℕ). m % A) e)) own_nodes)
        (each_map (λ q r e. r (ap (λ (m : ℕ). m / A) e)) outside)

    pub over_distinct : Distinct (plan_over A k f w)
    unfolding plan_over
    over_distinct =
        distinct_append (λ q r inside out e. out (sym (ap (λ (q : Place). q.node.0 / A) e) ∙ inside))
        (each_image (row_at A f) (λ j r. r.0) own_nodes) outside
        (distinct_image (row_at A f) row_injective sound.own_once) later
      where
        -- at f's local column and in its row
        Diagonal : Place → Type 0
        Diagonal q = (q.node.0 % A ≡ c) × (q.row.0 ≡ c)

        later : Distinct (map (row_at A f) (step_two k w) ++ pairs_at A f (step_three k w))
        later =
            distinct_append {R = Diagonal} {S = λ q. Diagonal q → ⊥} (λ q r on off e. off (subst Diagonal e on))
            (each_image (row_at A f) (λ j r. (r.1, refl)) second_nodes)
            (each_pairs (λ j r. ((λ on. r.1 on.0), λ on. r.1 on.1)) third_nodes)
            (distinct_image (row_at A f) row_injective (distinct_take k sound.diagonal_once))
            (pairs_distinct (each_map (λ j r. r.1) third_nodes)
            (distinct_take (k - length (step_two k w)) sound.off_diagonal_once))
