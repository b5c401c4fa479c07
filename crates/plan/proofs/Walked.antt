-- The nodes that the three steps list are those of the plan.
use mathlib.Core.Path.{◌≡◌, refl, sym, ap, ap₂, ◌∙◌}
use mathlib.Core.Bool.{Bool, true, false, ◌&&◌, not, cond, false≢true}
use mathlib.Core.List.{List, [], ◌∷◌, ◌++◌, map, append_assoc}
use Prim.Native.Nat.{ℕ, zero, suc, ◌+◌, ◌-◌, ◌/◌, ◌%◌, ◌≤◌, ◌<◌, zero-le}
use native.Mathlib.Nat.{sub-zero, mul-sub}
use native.Mathlib.Omega.{arith}
use lib.Dec.{eqb}
use lib.ListN.{length, take, length-append, length-take}
use lib.Seq.{length-take-le, take_all}
use Rattle.lists.specs.Listed.{rising, along, around}
use Rattle.lists.proofs.Around.{along_front, around_zero}
use Rattle.lists.specs.Put.{Wrote}
use Rattle.lists.proofs.Put.{wrote_then, wrote_same}
use Rattle.lists.specs.Each.{Each}
use Rattle.lists.proofs.Each.{each_append, each_take, each_map}
use Rattle.document.specs.declared.Profile.{Profile}
use Rattle.document.specs.declared.Node.{Node}
use Rattle.document.specs.Profile.{Accepted}
use Rattle.document.specs.Plan.{
  is_own,
  is_diagonal,
  is_off_diagonal,
  row_at,
  pairs_at,
  walk_start,
  walked,
  walk_of,
  step_two,
  step_three,
  nodes_over,
  plan_over,
  planned,
}
use Rattle.document.proofs.Walks.{Sound, walk_sound, planned_over, nodes_enough}
use Rattle.plan.specs.Steps.{places_of}
use Rattle.plan.proofs.Places.{places_append, singles, pairs}

-- the first k entries of two lists in a row
take_both : (k : ℕ) (xs ys : List ℕ) → take k (xs ++ ys) ≡ take k xs ++ take (k - length (take k xs)) ys
take_both zero xs ys = refl
take_both (suc k) [] ys = rw sub-zero
take_both (suc k) (x ∷ xs) ys =
    let m : ℕ = length (take k xs) in
    let e : suc k - suc m ≡ k - m = omega arith in
    rw (e, take_both k xs ys)

-- a node in f's group, or at its local column, is not off the diagonal: by the tests of its group and of its column
own_single : (group column : Bool) → group && not column ≡ true → not group && not column ≡ false
own_single true column e = refl
own_single false column e = absurd (false≢true e)

diagonal_single : (group column : Bool) → not group && column ≡ true → not group && not column ≡ false
diagonal_single true column e = refl
diagonal_single false true e = refl
diagonal_single false false e = absurd (false≢true e)

-- ---- a step, from `at` until the list ends at `end` or the nodes run out
pub at_most_one : (j : ℕ) (b : Bool) → length (cond b (j ∷ []) []) ≤ 1
at_most_one j true = omega arith
at_most_one j false = omega arith

module _ (n : ℕ) (g : ℕ → ℕ) (P : ℕ → Bool) {d e : List ℕ} {i at next end : ℕ} where
  pub nodes_run_out : i ≡ n → next ≤ end → Wrote d at (along i g P) next e
      → along i g P ≡ take (end - at) (along n g P)
  nodes_run_out all fits w =
      let some : length (along i g P) ≤ end - at = omega (arith, w.ends) in
      sym (take_all (end - at) (along i g P) some) ∙ ap (λ (m : ℕ). take (end - at) (along m g P)) all

  pub list_full : i ≤ n → next ≡ end → Wrote d at (along i g P) next e → along i g P ≡ take (end - at) (along n g P)
  list_full h full w =
      let size : length (along i g P) ≡ end - at = omega (arith, w.ends) in
      sym (along_front g P i n h) ∙ ap (λ (m : ℕ). take m (along n g P)) size

pub step_ends : {d e : List ℕ} {at r : ℕ} (end : ℕ) (xs : List ℕ) → at ≤ end → Wrote d at (take (end - at) xs) r e
    → r ≤ end
step_ends {at = at} end xs h w = omega (arith, w.ends, length-take (end - at) xs)

module _ (p : Profile) (acc : Accepted p) (f : Node) (h : f.0 < p.n) where
  open p use {n, k, a as A}

  abbrev own : List ℕ
  own = rising n (is_own A f)

  abbrev diagonal : List ℕ
  diagonal = walked p f (is_diagonal A f)

  abbrev off : List ℕ
  off = walked p f (is_off_diagonal A f)

  -- the nodes of steps 2 and 3
  abbrev second : List ℕ
  second = step_two k (walk_of p f)

  abbrev third : List ℕ
  third = step_three k (walk_of p f)

  -- the nodes of the plan
  abbrev plan_nodes : List ℕ
  plan_nodes = nodes_over k (walk_of p f)

  sound : Sound n A f (walk_of p f)
  sound = walk_sound p acc f h

  -- steps 2 and 3 have k nodes to go over
  enough : k ≤ length (diagonal ++ off)
  enough =
      rw (length-append, sound.diagonal_length, sound.off_diagonal_length)
      (omega (arith, mul-sub (n / A - 1) A 1, nodes_enough p acc))

  pub nodes_count : length plan_nodes ≡ A - 1 + k
  nodes_count =
      length-append own (second ++ third)
      ∙ ap₂ ◌+◌ sound.own_length
      (sym (ap length (take_both k diagonal off)) ∙ length-take-le k (diagonal ++ off) enough)

  -- where the three steps write their nodes one after the other, steps 2 and 3 until there are k
  pub nodes_written : {d d₁ d₂ d₃ : List ℕ} {m₁ m₂ m₃ b : ℕ} → b ≡ walk_start p f
      → Wrote d 0 (take (A - 1 - 0) (around n 0 (is_own A f))) m₁ d₁
      → Wrote d₁ m₁ (take (m₁ + k - m₁) (around n b (is_diagonal A f))) m₂ d₂
      → Wrote d₂ m₂ (take (m₁ + k - m₂) (around n b (is_off_diagonal A f))) m₃ d₃ → Wrote d 0 plan_nodes m₃ d₃
  nodes_written {d₁ = d₁} {d₂ = d₂} {m₁ = m₁} {m₂ = m₂} begins u v w =
      let all : take (A - 1 - 0) (around n 0 (is_own A f)) ≡ own =
      ap (take (A - 1 - 0)) (around_zero n (is_own A f)) ∙ take_all (A - 1 - 0) own (omega (arith, sound.own_length)) in
      let most : m₁ + k - m₁ ≡ k = omega arith in
      let two : Wrote d₁ m₁ second m₂ d₂ =
      wrote_same (ap₂ (λ (m b : ℕ). take m (around n b (is_diagonal A f))) most begins) v in
      let left : m₁ + k - m₂ ≡ k - length second = omega (arith, two.ends) in
      wrote_same (append_assoc own second third)
      (wrote_then zero-le (wrote_then zero-le (wrote_same all u) two)
      (wrote_same (ap₂ (λ (m b : ℕ). take m (around n b (is_off_diagonal A f))) left begins) w))

  pub nodes_below : Each (λ j. j < n) plan_nodes
  nodes_below =
      each_append (each_map (λ j r. r.1) sound.own)
      (each_append (each_take k (each_map (λ j r. r.1) sound.diagonal))
      (each_take (k - length second) (each_map (λ j r. r.1) sound.off_diagonal)))

  abbrev group : ℕ → Bool
  group j = eqb (j / A) (f.0 / A)

  abbrev column : ℕ → Bool
  column j = eqb (j % A) (f.0 % A)

  own_places : places_of A f own ≡ map (row_at A f) own
  unfolding is_own is_off_diagonal
  own_places = singles A f (each_map (λ j r. own_single (group j) (column j) r.0) sound.own)

  diagonal_places : places_of A f second ≡ map (row_at A f) second
  unfolding is_diagonal is_off_diagonal
  diagonal_places =
      singles A f
      (each_take k (each_map (λ j r. diagonal_single (group j) (column j) r.0) sound.diagonal))

  off_places : places_of A f third ≡ pairs_at A f third
  off_places = pairs A f (each_take (k - length second) (each_map (λ j r. r.0) sound.off_diagonal))

  pub plan_places : places_of A f plan_nodes ≡ planned p f
  unfolding plan_over
  plan_places =
      places_append A f own (second ++ third)
      ∙ ap₂ ◌++◌ own_places (places_append A f second third ∙ ap₂ ◌++◌ diagonal_places off_places)
      ∙ sym (planned_over p f)
