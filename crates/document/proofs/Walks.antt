-- What follows for a walk from going over each candidate once: which nodes each of its steps has, none of them twice,
-- and how many. Each edition's walk is one such, and the plan over it is the planned places.
use mathlib.Core.Path.{◌≡◌, ap, ap₂, ◌∙◌}
use mathlib.Core.Bool.{Bool, true, false, ◌&&◌, cond}
use Prim.Native.Nat.{ℕ, ◌+◌, ◌-◌, ◌*◌, ◌/◌, ◌%◌, ◌≤◌, ◌<◌, zero-le}
use native.Mathlib.Nat.{one-mul, mul-one, mul-sub, mod-lt, div-lt_iff_lt-mul}
use native.Mathlib.Omega.{arith}
use lib.Dec.{eqb}
use lib.ListN.{length, get_or, length-map}
use Rattle.lists.specs.Listed.{rising}
use Rattle.lists.specs.Each.{Each, Distinct}
use Rattle.lists.proofs.Rising.{count_one, count_others, count_digits}
use Rattle.lists.proofs.Once.{once_each, once_distinct, once_length, once_has, rising_once}
use Rattle.lists.proofs.Around.{around_once}
use Rattle.document.specs.declared.Profile.{Profile}
use Rattle.document.specs.declared.Node.{Node}
use Rattle.document.specs.Profile.{Accepted}
use Rattle.document.specs.Plan.{
  is_own,
  is_diagonal,
  is_off_diagonal,
  row_at,
  planned,
  Walk,
  Complete,
  walk_start,
  walk_of,
  step_two,
  plan_over,
}
use Rattle.document.proofs.Bounds.{A>0, n_is}

pub record Sound (n A : ℕ) (f : Node) (w : Walk) : Type 0 where
  pub own : Each (λ j. (is_own A f j ≡ true) × (j < n)) w.own
  pub own_once : Distinct w.own
  pub own_length : length w.own ≡ A - 1
  pub own_all : (j : ℕ) → j < n → is_own A f j ≡ true → (i : ℕ) × (i < length w.own) × (get_or w.own i 0 ≡ j)
  pub diagonal : Each (λ j. (is_diagonal A f j ≡ true) × (j < n)) w.diagonal
  pub diagonal_once : Distinct w.diagonal
  pub diagonal_length : length w.diagonal ≡ n / A - 1
  pub off_diagonal : Each (λ j. (is_off_diagonal A f j ≡ true) × (j < n)) w.off_diagonal
  pub off_diagonal_once : Distinct w.off_diagonal
  pub off_diagonal_length : length w.off_diagonal ≡ (n / A - 1) * (A - 1)

-- steps 2 and 3 begin at a node, or past the last one
pub walk_start_lem : (p : Profile) (f : Node) → f.0 < p.n → walk_start p f ≤ p.n
unfolding walk_start
walk_start_lem p f h = go (eqb p.edition 1)
  where
    go : (first : Bool) → cond first 0 (f.0 + 1) ≤ p.n
    go true = zero-le
    go false = omega arith

-- step 1 by rising node, the others around
pub walk_complete : (p : Profile) (f : Node) → f.0 < p.n → Complete p.n p.a f (walk_of p f)
walk_complete p f h = record {
  own = rising_once p.n (is_own p.a f);
  diagonal = around_once p.n (walk_start p f) (walk_start_lem p f h) (is_diagonal p.a f);
  off_diagonal = around_once p.n (walk_start p f) (walk_start_lem p f h) (is_off_diagonal p.a f);
}

-- the planned places are those of the steps over this walk
pub planned_over : (p : Profile) (f : Node) → planned p f ≡ plan_over p.a p.k f (walk_of p f)
unfolding planned plan_over
planned_over p f = rw (length-map (step_two p.k (walk_of p f)) (row_at p.a f))

module _ (p : Profile) (acc : Accepted p) where
  open p use {n, k, a as A}

  abbrev G : ℕ
  G = n / A

  -- outside a group there are at least k nodes
  pub nodes_enough : k ≤ (G - 1) * A
  nodes_enough = omega (arith, mul-sub A G 1, acc.shape.enough_parity, acc.shape.some_parity, n_is p acc)

  module _ (f : Node) (h : f.0 < n) where
    group_lt : f.0 / A < G
    group_lt = (div-lt_iff_lt-mul (A>0 p acc)).1 (rw (n_is p acc) at h)

    column_lt : f.0 % A < A
    column_lt = mod-lt f.0 (A>0 p acc)

    -- the nodes by a test of the group and a test of the local column
    node_count : (Q R : ℕ → Bool) {x y : ℕ} → length (rising G Q) ≡ x → length (rising A R) ≡ y
        → length (rising n (λ j. Q (j / A) && R (j % A))) ≡ x * y
    node_count Q R q r =
        ap (λ (m : ℕ). length (rising m (λ j. Q (j / A) && R (j % A)))) (n_is p acc) ∙ count_digits G A Q R
        ∙ ap₂ (λ (x y : ℕ). x * y) q r

    own_count : length (rising n (is_own A f)) ≡ A - 1
    unfolding is_own
    own_count =
        node_count _ _ (count_one G (f.0 / A) group_lt) (count_others A (f.0 % A) column_lt) ∙ one-mul (A - 1)

    diagonal_count : length (rising n (is_diagonal A f)) ≡ G - 1
    unfolding is_diagonal
    diagonal_count =
        node_count _ _ (count_others G (f.0 / A) group_lt) (count_one A (f.0 % A) column_lt) ∙ mul-one (G - 1)

    off_diagonal_count : length (rising n (is_off_diagonal A f)) ≡ (G - 1) * (A - 1)
    unfolding is_off_diagonal
    off_diagonal_count =
        node_count _ _ (count_others G (f.0 / A) group_lt) (count_others A (f.0 % A) column_lt)

    pub complete_sound : (w : Walk) → Complete n A f w → Sound n A f w
    complete_sound w complete = record {
      own = once_each n (is_own A f) w.own complete.own;
      own_once = once_distinct n (is_own A f) w.own complete.own;
      own_length = once_length n (is_own A f) w.own complete.own ∙ own_count;
      own_all = once_has n (is_own A f) w.own complete.own;
      diagonal = once_each n (is_diagonal A f) w.diagonal complete.diagonal;
      diagonal_once = once_distinct n (is_diagonal A f) w.diagonal complete.diagonal;
      diagonal_length = once_length n (is_diagonal A f) w.diagonal complete.diagonal ∙ diagonal_count;
      off_diagonal = once_each n (is_off_diagonal A f) w.off_diagonal complete.off_diagonal;
      off_diagonal_once = once_distinct n (is_off_diagonal A f) w.off_diagonal complete.off_diagonal;
      off_diagonal_length =
          once_length n (is_off_diagonal A f) w.off_diagonal complete.off_diagonal ∙ off_diagonal_count;
    }

    -- the edition's walk
    pub walk_sound : Sound n A f (walk_of p f)
    walk_sound = complete_sound (walk_of p f) (walk_complete p f h)
