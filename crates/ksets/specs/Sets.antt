-- 'Reading back and the survey': 'The survey looks at the sets of k nodes in lexicographic order, starting at a given
-- position (0 is the first)'. A set is the list of its nodes, rising.
--
-- max_nodes             : the most nodes that the functions take
-- sets n k             : the number of sets of k of n nodes
-- set_at b n k pos      : the set at a position in lexicographic order, of k of the n nodes b, b + 1, ..
-- rank_of b n set       : the position of a set of some of the n nodes b, b + 1, ..
-- RisingFrom n b k set : set is k strictly rising numbers from b on, below n
-- Rising n k set       : set is k strictly rising numbers below n
-- Smaller u v          : u stands before v in lexicographic order
-- run b k              : b, b + 1, .., k numbers
-- full n set           : no entry of set can be raised, with those after it, and stay below n
-- next_of n set         : the next set of the nodes below n: the last entry that can be raised is raised by one, and
--                        those after it follow at once
use Rattle.std.specs.Prelude.{Bool, true, ◌&&◌, cond, List, [], ◌∷◌, ℕ, zero, suc, ◌+◌, ◌-◌, ◌≤◌, ◌<◌, eqb, leb, ltb, length}
use Rattle.lists.specs.Listed.{listed}

-- 'The ceilings are 24 nodes, ..'
abbrev pub max_nodes : ℕ
max_nodes = 24

-- 'The number of sets follows Pascal's rule: with or without the last node'
unfoldable pub sets : ℕ → ℕ → ℕ
sets n zero = 1
sets zero (suc k) = 0
sets (suc n) (suc k) = sets n (suc k) + sets n k

-- those with the first node come first
unfoldable pub set_at : ℕ → ℕ → ℕ → ℕ → List ℕ
set_at b n zero pos = []
set_at b zero (suc k) pos = []
set_at b (suc n) (suc k) pos =
    cond (ltb pos (sets n k)) (b ∷ set_at (suc b) n k pos) (set_at (suc b) n (suc k) (pos - sets n k))

unfoldable pub rank_of : ℕ → ℕ → List ℕ → ℕ
rank_of b n [] = 0
rank_of b zero (x ∷ xs) = 0
rank_of b (suc n) (x ∷ xs) =
    cond (eqb x b) (rank_of (suc b) n xs) (sets n (length xs) + rank_of (suc b) n (x ∷ xs))

pub data RisingFrom (n : ℕ) : ℕ → ℕ → List ℕ → Type 0 where
  none : {b : ℕ} → RisingFrom n b 0 []
  next : {b k x : ℕ} {xs : List ℕ} → b ≤ x → x < n → RisingFrom n (suc x) k xs → RisingFrom n b (suc k) (x ∷ xs)

abbrev pub Rising : ℕ → ℕ → List ℕ → Type 0
Rising n k set = RisingFrom n 0 k set

pub data Smaller : List ℕ → List ℕ → Type 0 where
  here : {x y : ℕ} {xs ys : List ℕ} → x < y → Smaller (x ∷ xs) (y ∷ ys)
  later : {x : ℕ} {xs ys : List ℕ} → Smaller xs ys → Smaller (x ∷ xs) (x ∷ ys)

unfoldable pub run : ℕ → ℕ → List ℕ
run b k = listed k (λ e. b + e)

unfoldable pub full : ℕ → List ℕ → Bool
full n [] = true
full n (x ∷ xs) = leb n (suc (x + length xs)) && full n xs

unfoldable pub next_of : ℕ → List ℕ → List ℕ
next_of n [] = []
next_of n (x ∷ xs) = cond (full n xs) (run (suc x) (suc (length xs))) (x ∷ next_of n xs)
