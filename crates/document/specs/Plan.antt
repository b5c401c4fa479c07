-- 'The rebuild plan and its price': the places that are read to rebuild a lost node f, in edition 1, and in edition 2
-- of K6. Here c is f's local column.
--
-- is_own A f j         : node j is another node of f's own group
-- is_diagonal A f j    : node j lies in another group, and its row c on the diagonal: its local column is c
-- is_off_diagonal A f j : node j lies in another group, at another local column
-- row_at A f j         : the place of node j, row c
-- pairs_at A f js      : for each of the nodes js its row c, then the partner of that place
-- walk_start p f       : the node at which steps 2 and 3 begin to walk; n stands for 0
-- walked p f P        : the nodes for which P holds, in the order of this walk
-- first_step p f       : the places of step 1
-- second_step p f      : the places of step 2
-- third_step p f       : the places of step 3
-- planned p f         : the planned places
-- planned_at p f i     : the planned place i, from 0
-- price_of n k A       : their number
-- max_places           : the greatest of these numbers
-- plan_bytes qs        : places written as two bytes each
-- plan_tests p f x     : the refusals of planning past those of a profile, in their order
-- plan_with p f x      : planning into x with the profile p: the answer, and what x holds then
-- plan_of p f x        : the same for any numbers p
--
-- For the theorems, which hold whatever the order within a step, and for what computes by them:
-- Walk                : the nodes that each of the three steps goes over, in their order
-- Complete n A f w    : each step of the walk w goes over each of its candidates once
-- walk_of p f          : the edition's walk
-- step_two k w         : the nodes that step 2 lists over the walk w
-- step_three k w       : the nodes that step 3 lists over it
-- chosen_over k w      : the nodes of steps 2 and 3
-- nodes_over k w       : the nodes of the three steps
-- plan_over A k f w    : the places of the three steps; over the edition's walk they are the planned places, which is
--                       `Demand3Walk` in demands/specs/Plan.antt
use Rattle.std.specs.Prelude.{Bool, ◌&&◌, not, cond, List, [], ◌∷◌, ◌++◌, map, ℕ, ◌+◌, ◌-◌, ◌*◌, ◌/◌, eqb, ltb, length, take, drop, Ok, Err}
use Rattle.lists.specs.Listed.{rising, around}
use Rattle.lists.specs.Each.{ListsOnce}
use Rattle.document.specs.declared.Numbers.{Numbers}
use Rattle.document.specs.declared.Profile.{Profile}
use Rattle.document.specs.declared.Node.{Node}
use Rattle.document.specs.declared.Place.{Place}
use Rattle.document.specs.declared.Refusal.TheVariants.{OutOfRange, BufferLength}
use Rattle.document.specs.Refusals.{Test, tried, Answer}
use Rattle.document.specs.Profile.{on_accepted}
use Rattle.document.specs.Places.{place, group_of, local_column, partner_of, place_at}

module _ (A : ℕ) (f : Node) where
  -- Whether node j lies in f's group, and at f's local column.
  abbrev same_group : ℕ → Bool
  same_group j = eqb (group_of A (record { 0 = j })) (group_of A f)

  abbrev same_column : ℕ → Bool
  same_column j = eqb (local_column A (record { 0 = j })) (local_column A f)

  -- 'every other node of f's own group'
  unfoldable pub is_own : ℕ → Bool
  is_own j = same_group j && not (same_column j)

  -- 'the node with local column c in each other group'
  unfoldable pub is_diagonal : ℕ → Bool
  is_diagonal j = not (same_group j) && same_column j

  -- 'each remaining node outside f's group whose local column is not c'
  unfoldable pub is_off_diagonal : ℕ → Bool
  is_off_diagonal j = not (same_group j) && not (same_column j)

  -- 'row c of ..'
  abbrev pub row_at : ℕ → Place
  row_at j = place j (local_column A f)

  -- 'with two places: its row c, then the partner of that place'
  unfoldable pub pairs_at : List ℕ → List Place
  pairs_at [] = []
  pairs_at (j ∷ js) = row_at j ∷ partner_of A (row_at j) ∷ pairs_at js

module _ (p : Profile) (f : Node) where
  open p use {n, k, a as A}

  -- K6: 'Edition 2 walks the candidates of steps 2 and 3 from the node after the lost one'; 'Edition 1 stays':
  -- 'rising', from node 0.
  unfoldable pub walk_start : ℕ
  walk_start = cond (eqb p.edition 1) 0 (f.0 + 1)

  -- '.. rising and wrapping past n-1 to 0'
  abbrev pub walked : (ℕ → Bool) → List ℕ
  walked P = around n walk_start P

  -- 1. 'row c of every other node of f's own group, by rising node;'
  abbrev pub first_step : List Place
  first_step = map (row_at A f) (rising n (is_own A f))

  -- 2. 'row c of the node with local column c in each other group, rising, until k places are listed in this step or
  -- the groups run out;' K6: in the walk's order.
  abbrev pub second_step : List Place
  second_step = map (row_at A f) (take k (walked (is_diagonal A f)))

  -- 3. 'if step 2 gave fewer than k: each remaining node outside f's group whose local column is not c, rising, with
  -- two places: its row c, then the partner of that place; until steps 2 and 3 have given k nodes.' K6: 'each step on
  -- its own, so that step 2 is still finished before step 3 begins'.
  abbrev pub third_step : List Place
  third_step = pairs_at A f (take (k - length second_step) (walked (is_off_diagonal A f)))

  -- 'The plan lists, in this order:' K6: 'Step 1 stays.'
  unfoldable pub planned : List Place
  planned = first_step ++ (second_step ++ third_step)

unfoldable pub planned_at : Profile → Node → ℕ → Place
planned_at p f i = place_at (planned p f) i

-- 'The number of places is A-1 + k + max(0, k-(G-1))', where G = n div A.
abbrev pub price_of : ℕ → ℕ → ℕ → ℕ
price_of n k A = (A - 1) + k + (k - (n / A - 1))

-- 'Examples: .. (24,20,4) 38': no accepted profile has more, see Ceilings.antt.
abbrev pub max_places : ℕ
max_places = 38

-- 'A plan is written as two bytes a place'; 'A place is written node first, then row'.
unfoldable pub plan_bytes : List Place → List ℕ
plan_bytes [] = []
plan_bytes (q ∷ qs) = q.node.0 ∷ q.row.0 ∷ plan_bytes qs

-- The refusals of planning past those of a profile: 4 for 'lost node not below n', then 5 for a buffer too short.
unfoldable pub plan_tests : Profile → Node → List ℕ → List Test
plan_tests p f x =
    record { refusal = OutOfRange; holds = not (ltb f.0 p.n) }
    ∷ record { refusal = BufferLength; holds = ltb (length x) (2 * length (planned p f)) }
    ∷ []

-- 'into a lent buffer that may be longer; bytes past the plan stay'; 'with the number of places for a plan'.
unfoldable pub plan_with : Profile → Node → List ℕ → Answer × List ℕ
plan_with p f x =
    let plan : List Place = planned p f in
    tried (plan_tests p f x) (λ r. (Err r, x)) (Ok (length plan), plan_bytes plan ++ drop (2 * length plan) x)

unfoldable pub plan_of : Numbers → ℕ → List ℕ → Answer × List ℕ
plan_of p f x = on_accepted p (λ r. (Err r, x)) (λ p. plan_with p (record { 0 = f }) x)

-- ---- for the theorems, and for what computes by them: the same steps over candidates in any order
-- The candidates of the three steps.
pub record Walk : Type 0 where
  pub own : List ℕ
  pub diagonal : List ℕ
  pub off_diagonal : List ℕ

-- What the theorems about plans ask of a walk, whatever its order.
pub record Complete (n A : ℕ) (f : Node) (w : Walk) : Type 0 where
  pub own : ListsOnce n (is_own A f) w.own
  pub diagonal : ListsOnce n (is_diagonal A f) w.diagonal
  pub off_diagonal : ListsOnce n (is_off_diagonal A f) w.off_diagonal

-- Step 1 'by rising node', steps 2 and 3 as the edition walks.
abbrev pub walk_of : Profile → Node → Walk
walk_of p f = record {
  own = rising p.n (is_own p.a f);
  diagonal = walked p f (is_diagonal p.a f);
  off_diagonal = walked p f (is_off_diagonal p.a f);
}

-- Step 2: 'until k places are listed in this step or the groups run out'.
abbrev pub step_two : ℕ → Walk → List ℕ
step_two k w = take k w.diagonal

-- Step 3: 'if step 2 gave fewer than k: .. until steps 2 and 3 have given k nodes'.
abbrev pub step_three : ℕ → Walk → List ℕ
step_three k w = take (k - length (step_two k w)) w.off_diagonal

abbrev pub chosen_over : ℕ → Walk → List ℕ
chosen_over k w = step_two k w ++ step_three k w

abbrev pub nodes_over : ℕ → Walk → List ℕ
nodes_over k w = w.own ++ chosen_over k w

-- Row c at the nodes of step 1, row c at those of step 2, two places at those of step 3.
unfoldable pub plan_over : ℕ → ℕ → Node → Walk → List Place
plan_over A k f w = map (row_at A f) w.own ++ (map (row_at A f) (step_two k w) ++ pairs_at A f (step_three k w))
