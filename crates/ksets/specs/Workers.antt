-- What the functions ask and leave on the way.
--
-- next_at row k              : entry k of Pascal's row below `row`
-- Shared total n k          : total is the number of sets of k of n nodes, where n is 1 to max_nodes and k is not 0
-- Writes set at b n k total : what writing a set asks: total such sets, and room from `at` on
-- Ranks set at b n k total  : what ranking asks: total such sets, and k nodes from `at` on
-- Raised n set i            : i is the last entry of set that can be raised
-- Steps n set               : set is a set of the nodes below n, and not the last one
use Rattle.std.specs.Prelude.{◌≡◌, true, List, ℕ, zero, suc, ◌+◌, ◌-◌, ◌≤◌, ◌<◌, length, get_or, drop}
use Rattle.ksets.specs.Sets.{max_nodes, sets, rank_of, Rising, full}

unfoldable pub next_at : List ℕ → ℕ → ℕ
next_at row zero = 1
next_at row (suc k) = get_or row (suc k) 0 + get_or row k 0

pub record Shared (total n k : ℕ) : Type 0 where
  pub few : n ≤ max_nodes
  pub node : 0 < n
  pub chosen : 0 < k
  pub all : total ≡ sets n k

pub record Writes (set : List ℕ) (at b n k total : ℕ) : Type 0 where
  pub few : b + n ≤ max_nodes
  pub room : at + k ≤ length set
  pub all : total ≡ sets n k

pub record Ranks (set : List ℕ) (at b n k total : ℕ) : Type 0 where
  pub few : b + n ≤ max_nodes
  pub rest : at + k ≡ length set
  pub all : total ≡ sets n k

pub record Raised (n : ℕ) (set : List ℕ) (i : ℕ) : Type 0 where
  pub inside : i < length set
  pub free : suc (get_or set i 0 + (length set - suc i)) < n
  pub rest : full n (drop (suc i) set) ≡ true

pub record Steps (n : ℕ) (set : List ℕ) : Type 0 where
  pub few : n ≤ max_nodes
  pub rises : Rising n (length set) set
  pub more : rank_of 0 n set + 1 < sets n (length set)
