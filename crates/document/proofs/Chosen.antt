-- The plan over any sound walk is the algebra's plan for the nodes of steps 2 and 3: these are k different nodes
-- outside the lost node's group, and the plan lists just the places that the algebra reads, each at one position.
use mathlib.Core.Path.{◌≡◌, refl, sym, ap, subst, ◌∙◌}
use mathlib.Core.Logic.{◌≢◌, ◌⊎◌, inl, inr}
use mathlib.Core.Bool.{cond}
use mathlib.Core.List.{List, ◌++◌, map}
use Prim.Native.Nat.{ℕ, zero, suc, ◌+◌, ◌-◌, ◌*◌, ◌/◌, ◌%◌, ◌≤◌, ◌<◌}
use native.Mathlib.Nat.{mul-sub, mod-lt, div-add-mod', not-suc-le-zero, le_of_suc-le-suc}
use native.Mathlib.Decide.{dec_lt}
use native.Mathlib.Omega.{arith}
use lib.Arith.{digits_div, digits_mod}
use lib.ListN.{length, get_or, length-append, length-take, get_or-append}
use Rattle.lists.specs.Each.{Each, Distinct, empty, new}
use Rattle.lists.proofs.Each.{
  each_at,
  each_from,
  each_append,
  each_left,
  each_right,
  each_take,
  each_map,
  each_image,
  each_both,
  distinct_at,
  distinct_append,
  distinct_take,
}
use Rattle.lists.proofs.Some.{
  Some,
  here,
  later,
  some_from,
  some_at,
  some_left,
  some_right,
  some_split,
  some_image,
  some_each,
}
use Rattle.algebra.specs.RowCode.{Choice}
use Rattle.algebra.specs.Coupling.{partner_node}
use Rattle.algebra.specs.Rebuild.{Planned, own, chosen, partner}
use Rattle.document.specs.declared.Profile.{Profile}
use Rattle.document.specs.declared.Node.{Node}
use Rattle.document.specs.declared.Place.{Place}
use Rattle.document.specs.Profile.{Accepted}
use Rattle.document.specs.Places.{place, partner_of, same_place, Within}
use Rattle.document.specs.Plan.{row_at, pairs_at, Walk, walk_of, step_two, step_three, chosen_over, plan_over, planned}
use Rattle.document.specs.Rebuild.{position_of}
use Rattle.document.proofs.Decides.{decides_false, decides_place}
use Rattle.document.proofs.Bounds.{A>0, group_within, partner_within}
use Rattle.document.proofs.Walks.{Sound, walk_sound, planned_over, nodes_enough}
use Rattle.document.proofs.Planned.{
  own_is,
  each_pairs,
  own_nodes,
  second_nodes,
  third_nodes,
  over_distinct,
}

-- where no place stands twice, entry m stands at position m
pub position_at : (d : Place) {qs : List Place} → Distinct qs → (m : ℕ) → m < length qs
    → position_of (get_or qs m d) qs ≡ m
unfolding position_of
position_at d empty m h = absurd (not-suc-le-zero h)
position_at d (new {x = q} {xs = qs} e es) zero h =
    ap (λ b. cond b 0 (suc (position_of q qs))) ((decides_place q q).1 refl)
position_at d (new {x = q} {xs = qs} e es) (suc m) h =
    let r : Place = get_or qs m d in
    let other : r ≡ q → ⊥ = λ i. each_at d e m (le_of_suc-le-suc h) (sym i) in
    ap (λ b. cond b 0 (suc (position_of r qs))) (decides_false (same_place r q) (decides_place r q) other)
    ∙ ap suc (position_at d es m (le_of_suc-le-suc h))

-- a node of step 3 stands for its row c and for the partner of that place
module _ (A : ℕ) (f : Node) {R : ℕ → Type 0} {S : Place → Type 0} where
  some_row : ((j : ℕ) → R j → S (row_at A f j)) → {js : List ℕ} → Some R js → Some S (pairs_at A f js)
  unfolding pairs_at
  some_row h (here r) = here (h _ r)
  some_row h (later s) = later (later (some_row h s))

  some_partner : ((j : ℕ) → R j → S (partner_of A (row_at A f j))) → {js : List ℕ} → Some R js → Some S (pairs_at A f js)
  unfolding pairs_at
  some_partner h (here r) = later (here (h _ r))
  some_partner h (later s) = later (later (some_partner h s))

module _ (p : Profile) (acc : Accepted p) (f : Node) (h : f.0 < p.n) (w : Walk)
    (sound : Sound p.n p.a f w) where
  open p use {n, k, a as A}

  abbrev g : ℕ
  g = f.0 / A

  abbrev c : ℕ
  c = f.0 % A

  -- the chosen nodes, the planned places
  abbrev nodes : List ℕ
  nodes = chosen_over k w

  abbrev s : ℕ → ℕ
  s m = get_or nodes m 0

  abbrev plan : List Place
  plan = plan_over A k f w

  abbrev at : ℕ → Place
  at m = get_or plan m (place 0 0)

  second : Each (λ j. (j / A ≢ g) × (j % A ≡ c)) (step_two k w)
  second = second_nodes A (A>0 p acc) k f w sound

  third : Each (λ j. (j / A ≢ g) × (j % A ≢ c)) (step_three k w)
  third = third_nodes A (A>0 p acc) k f w sound

  pub chosen_length : length nodes ≡ k
  chosen_length =
      let left : k - (n / A - 1) ≤ (n / A - 1) * (A - 1) =
      omega (arith, mul-sub (n / A - 1) A 1, nodes_enough p acc) in
      rw (
        length-append,
        length-take _ w.diagonal,
        length-take _ w.off_diagonal,
        sound.diagonal_length,
        sound.off_diagonal_length,
      )
      (omega (arith, left))

  listed : {m : ℕ} → m < k → m < length nodes
  listed l = omega (arith, chosen_length)

  nodes_below : Each (λ j. j < n) nodes
  nodes_below =
      each_append (each_take k (each_map (λ j r. r.1) sound.diagonal))
      (each_take (k - length (step_two k w)) (each_map (λ j r. r.1) sound.off_diagonal))

  nodes_once : Distinct nodes
  nodes_once =
      distinct_append (λ x y r t e. t.1 (ap (λ (j : ℕ). j % A) (sym e) ∙ r.1)) second third
      (distinct_take k sound.diagonal_once)
      (distinct_take (k - length (step_two k w)) sound.off_diagonal_once)

  pub choice : Choice k n s
  choice = record {
    below = λ q l. each_at 0 nodes_below q (listed l);
    apart = λ q r l m. distinct_at 0 nodes_once q r l (listed m);
  }

  pub outside : (q : ℕ) → q < k → s q / A ≢ g
  outside q l =
      each_at 0 (each_append (each_map (λ j r. r.0) second) (each_map (λ j r. r.0) third)) q (listed l)

  -- step 3 is entered only where step 2 gave fewer than k nodes
  pub shape : (n / A ≤ k) ⊎ ((q : ℕ) → q < k → s q % A ≡ c)
  shape = go (dec_lt k (n / A))
    where
      full : k < n / A → (q : ℕ) → q < k → q < length (step_two k w)
      full few q l = rw (length-take _ w.diagonal, sound.diagonal_length) (omega arith)

      go : Dec (k < n / A) → (n / A ≤ k) ⊎ ((q : ℕ) → q < k → s q % A ≡ c)
      go (no many) = inl (omega arith)
      go (yes few) =
          inr (λ q l. ap (λ (j : ℕ). j % A)
          (get_or-append (step_two k w) (step_three k w) 0 q (full few q l))
          ∙ (each_at 0 second q (full few q l)).1)

  abbrev Reads : Place → Type 0
  Reads q = Planned A k f.0 s q.row.0 q.node.0

  -- each chosen node is one of the s q
  abbrev Numbered : ℕ → Type 0
  Numbered j = (q : ℕ) × (q < k) × (s q ≡ j)

  numbered : Each Numbered nodes
  numbered = each_from 0 nodes (λ q l. (q, omega (arith, chosen_length), refl))

  own_read : (j : ℕ) → (j / A ≡ g) × (j % A ≢ c) → Reads (row_at A f j)
  own_read j (inside, other) =
      subst (λ (m : ℕ). Planned A k f.0 s c m)
      (ap (λ (m : ℕ). m * A + j % A) (sym inside) ∙ div-add-mod' j A) (own (j % A) (mod-lt j (A>0 p acc)) other)

  chosen_read : (j : ℕ) → Numbered j → Reads (row_at A f j)
  chosen_read j (q, l, e) = subst (λ (m : ℕ). Planned A k f.0 s c m) e (chosen q l)

  partner_read : (j : ℕ) → Numbered j → j % A ≢ c → Reads (partner_of A (row_at A f j))
  partner_read j (q, l, e) other =
      subst (λ (m : ℕ). Reads (partner_of A (row_at A f m))) e
      (partner q l (λ i. other (ap (λ (m : ℕ). m % A) (sym e) ∙ i)))

  plan_read : Each Reads plan
  unfolding plan_over
  plan_read =
      each_append (each_image (row_at A f) own_read (own_nodes A (A>0 p acc) k f w sound))
      (each_append (each_image (row_at A f) chosen_read (each_left (step_two k w) (step_three k w) numbered))
      (each_pairs A (A>0 p acc) k f (λ j r. (chosen_read j r.0, partner_read j r.0 r.1.1))
      (each_both (each_right (step_two k w) (step_three k w) numbered) third)))

  -- every place of the plan is one that the algebra reads
  pub listed_planned : (m : ℕ) → m < length plan → Planned A k f.0 s (at m).row.0 (at m).node.0
  listed_planned = each_at (place 0 0) plan_read

  abbrev Has : Place → Type 0
  Has q = Some (λ r. r ≡ q) plan

  -- the places of steps 2 and 3
  abbrev later_places : List Place
  later_places = map (row_at A f) (step_two k w) ++ pairs_at A f (step_three k w)

  -- node i of the lost group is one of step 1
  pub own_found : (i : ℕ) → i < A → i ≢ c
      → (m : ℕ) × (m < length w.own) × (get_or w.own m 0 ≡ partner_node A i f.0)
  own_found i l other =
      sound.own_all (partner_node A i f.0) (omega (arith, group_within p acc f.0 h))
      ((own_is A f (partner_node A i f.0)).1 (digits_div g l, λ e. other (sym (digits_mod g l) ∙ e)))

  own_has : (i : ℕ) → i < A → i ≢ c → Has (row_at A f (partner_node A i f.0))
  unfolding plan_over
  own_has i l other =
      let found = own_found i l other in
      some_left later_places
      (some_image (row_at A f) (λ j e. ap (row_at A f) e) (some_from 0 w.own found.0 found.1 found.2))

  -- the step that gave the chosen node q
  abbrev Given : ℕ → Type 0
  Given q = Some (λ j. j ≡ s q) (step_two k w) ⊎ Some (λ j. j ≡ s q) (step_three k w)

  step_of : (q : ℕ) → q < k → Given q
  step_of q l = some_split (step_two k w) (step_three k w) (some_from 0 nodes q (listed l) refl)

  later_has : {q : Place} → Some (λ r. r ≡ q) later_places → Has q
  unfolding plan_over
  later_has = some_right (map (row_at A f) w.own)

  chosen_has : (q : ℕ) → q < k → Has (row_at A f (s q))
  chosen_has q l = later_has (go (step_of q l))
    where
      go : Given q → Some (λ r. r ≡ row_at A f (s q)) later_places
      go (inl t) = some_left (pairs_at A f (step_three k w)) (some_image (row_at A f) (λ j e. ap (row_at A f) e) t)
      go (inr t) = some_right (map (row_at A f) (step_two k w)) (some_row A f (λ j e. ap (row_at A f) e) t)

  partner_has : (q : ℕ) → q < k → s q % A ≢ c → Has (partner_of A (row_at A f (s q)))
  partner_has q l other = later_has (some_right (map (row_at A f) (step_two k w)) (go (step_of q l)))
    where
      go : Given q → Some (λ r. r ≡ partner_of A (row_at A f (s q))) (pairs_at A f (step_three k w))
      go (inl t) =
          absurd (other (ap (λ (j : ℕ). j % A) (sym (some_each second t).2) ∙ (some_each second t).1.1))
      go (inr t) = some_partner A f (λ j e. ap (λ (m : ℕ). partner_of A (row_at A f m)) e) t

  has : {i j : ℕ} → Planned A k f.0 s i j → Has (place j i)
  has (own i l other) = own_has i l other
  has (chosen q l) = chosen_has q l
  has (partner q l other) = partner_has q l other

  -- every place that the algebra reads is one of the plan
  pub planned_listed : (i j : ℕ) → Planned A k f.0 s i j → (m : ℕ) × (m < length plan) × (at m ≡ place j i)
  planned_listed i j r = some_at (place 0 0) (has r)

  pub position : (m : ℕ) → m < length plan → position_of (at m) plan ≡ m
  position = position_at (place 0 0) (over_distinct A (A>0 p acc) k f w sound)

  row_within : (j : ℕ) → j < n → Within p (row_at A f j)
  row_within j l = record { node = l; row = mod-lt f.0 (A>0 p acc) }

  pub planned_within : Each (Within p) plan
  unfolding plan_over
  planned_within =
      each_append (each_image (row_at A f) (λ j r. row_within j r.1) sound.own)
      (each_append (each_image (row_at A f) row_within (each_left (step_two k w) (step_three k w) nodes_below))
      (each_pairs A (A>0 p acc) k f (λ j l. (row_within j l, partner_within p acc (row_at A f j) (row_within j l)))
      (each_right (step_two k w) (step_three k w) nodes_below)))

-- over the edition's walk
pub plan_within : (p : Profile) → Accepted p → (f : Node) → f.0 < p.n → Each (Within p) (planned p f)
plan_within p acc f h = rw planned_over (planned_within p acc f h (walk_of p f) (walk_sound p acc f h))
