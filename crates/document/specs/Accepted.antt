-- What a profile is: its numbers, and which of them are accepted.
--
-- Profile                     : the numbers of a profile; the type `Profile` of src/ is one of these that is accepted
-- max_nodes, max_rows, max_strip : the ceilings
-- ShapeAccepted n k A         : n, k and A are accepted
-- Accepted p                  : p is an accepted profile
use Rattle.std.specs.Prelude.{◌≡◌, ℕ, ◌-◌, ◌%◌, ◌≤◌, ◌<◌}

-- Nodes, data nodes, rows, coupling constant, strip length in bytes, and the edition.
pub record Profile : Type 0 where
  pub n : ℕ
  pub k : ℕ
  pub a : ℕ
  pub t : ℕ
  pub s : ℕ
  pub edition : ℕ

-- 'The ceilings are 24 nodes, 4 rows and 512 bytes of strip'
abbrev pub max_nodes : ℕ
max_nodes = 24

abbrev pub max_rows : ℕ
max_rows = 4

abbrev pub max_strip : ℕ
max_strip = 512

-- 'k at least 1; n above k; 2 <= A <= 4; A at most n-k; A divides n; n at most 24'
pub record ShapeAccepted (n k A : ℕ) : Type 0 where
  pub some_data : 1 ≤ k
  pub some_parity : k < n
  pub two_rows : 2 ≤ A
  pub few_rows : A ≤ max_rows
  pub enough_parity : A ≤ n - k
  pub whole_groups : n % A ≡ 0
  pub few_nodes : n ≤ max_nodes

-- 't in 2..255; S in 1..512', and K6: edition 1 or 2.
pub record Accepted (p : Profile) : Type 0 where
  pub shape : ShapeAccepted p.n p.k p.a
  pub above_one : 2 ≤ p.t
  pub one_byte : p.t ≤ 255
  pub some_bytes : 1 ≤ p.s
  pub short : p.s ≤ max_strip
  pub first_edition : 1 ≤ p.edition
  pub last_edition : p.edition ≤ 2
