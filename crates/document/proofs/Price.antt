-- How many places a plan reads: its price, over any walk that goes over each candidate once.
use mathlib.Core.Path.{◌≡◌, refl}
use mathlib.Core.List.{List, [], ◌∷◌}
use Prim.Native.Nat.{ℕ, ◌+◌, ◌-◌, ◌*◌, ◌/◌, ◌≤◌, ◌<◌}
use native.Mathlib.Nat.{mul-sub}
use native.Mathlib.Decide.{dec_lt}
use native.Mathlib.Omega.{arith}
use lib.ListN.{length, length-append, length-map, length-take}
use Rattle.document.specs.declared.Profile.{Profile}
use Rattle.document.specs.declared.Node.{Node}
use Rattle.document.specs.Profile.{Accepted}
use Rattle.document.specs.Plan.{
  pairs_at,
  Walk,
  Complete,
  walk_of,
  step_two,
  step_three,
  plan_over,
  planned,
  price_of,
  max_places,
}
use Rattle.document.proofs.Bounds.{rows_bound}
use Rattle.document.proofs.Walks.{Sound, complete_sound, walk_complete, planned_over, nodes_enough}

-- a node stands for two places in step 3
pairs_length : (A : ℕ) (f : Node) (js : List ℕ) → length (pairs_at A f js) ≡ 2 * length js
unfolding pairs_at
pairs_length A f [] = refl
pairs_length A f (j ∷ js) = omega (arith, pairs_length A f js)

-- the places of steps 2 and 3, where d nodes are there for step 2 and enough for step 3
later_price : (k d : ℕ) (w : Walk) → length w.diagonal ≡ d → k - d ≤ length w.off_diagonal
    → length (step_two k w) + 2 * length (step_three k w) ≡ k + (k - d)
later_price k d w diagonal enough =
    rw (length-take _ w.diagonal, length-take _ w.off_diagonal, diagonal) (omega (arith, enough))

-- (24,20,4) has the longest plan: k is at most 24 - A, and at most (G-1)A, which is at most 16 where G-1 + A is at
-- most 8
pub price_bound : (p : Profile) → Accepted p → price_of p.n p.k p.a ≤ max_places
price_bound p acc = go (dec_lt (others + p.a) 9)
  where
    others : ℕ
    others = p.n / p.a - 1

    go : Dec (others + p.a < 9) → price_of p.n p.k p.a ≤ max_places
    go (yes few) =
        let few_rows : p.a ≤ 4 = acc.shape.few_rows in
        omega (arith, nodes_enough p acc, rows_bound 4 others p.a few_rows few_rows (omega arith))
    go (no many) = omega (arith, acc.shape)

module _ (p : Profile) (acc : Accepted p) (f : Node) (h : f.0 < p.n) where
  open p use {n, k, a as A}

  abbrev G : ℕ
  G = n / A

  pub over_price : (w : Walk) → Complete n A f w → length (plan_over A k f w) ≡ price_of n k A
  unfolding plan_over
  over_price w complete =
      rw (length-append, length-append, length-map w.own, length-map (step_two k w), pairs_length, sound.own_length)
      (omega (arith, later_price k (G - 1) w sound.diagonal_length enough))
    where
      sound : Sound n A f w
      sound = complete_sound p acc f h w complete

      -- step 3 has nodes enough for what step 2 leaves of k
      enough : k - (G - 1) ≤ length w.off_diagonal
      enough = omega (arith, sound.off_diagonal_length, mul-sub (G - 1) A 1, nodes_enough p acc)

  pub planned_price : length (planned p f) ≡ price_of n k A
  planned_price = rw planned_over (over_price (walk_of p f) (walk_complete p f h))

  pub few_places : length (planned p f) ≤ max_places
  few_places = omega (arith, planned_price, price_bound p acc)
