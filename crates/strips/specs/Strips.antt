-- What is done to whole strips, as lists of bytes.
--
-- max_sources, max_length                  : the most sources of a combination, and the longest strip
-- sum_of ws src offset stride             : a byte: the sum of the weights ws times the bytes of src at offset,
--                                          offset + stride, ..
-- combination_of ws src first stride len  : the strip of len such bytes, from sources at first, first + stride, ..
-- SourcesFit first stride count len size : what `combine` asks: count sources of len bytes lie within size bytes
-- strip_at x at s                         : the s bytes of x from `at` on
-- added_by g at src x                     : x with g of each byte of src added from `at` on
-- added_scaled c at src x                 : x with c times the bytes of src added from `at` on
-- added_strip at src x                    : x with the bytes of src added from `at` on
-- doubled_strip x                         : twice each byte of x
-- doubled_while m y x                     : x doubled once for each halving of y until y is 0, at most m times
-- used_up c x                             : what `add_multiple` leaves of the strip x, with the factor c
use Rattle.std.specs.Prelude.{cond, List, [], ◌∷◌, ℕ, zero, suc, ◌+◌, ◌*◌, ◌/◌, ◌≤◌, ◌<◌, ltb, length, get_or}
use Rattle.lists.specs.Listed.{listed, patched}
use Rattle.gf256.specs.Field.{◌⊕◌, ◌⊗◌, double}

-- 'all rules below hold at each byte offset of a strip on its own': one offset of a sum of weighted strips.
unfoldable pub sum_of : List ℕ → List ℕ → ℕ → ℕ → ℕ
sum_of [] src offset stride = 0
sum_of (w ∷ ws) src offset stride = (w ⊗ get_or src offset 0) ⊕ sum_of ws src (offset + stride) stride

-- The sum at every offset.
unfoldable pub combination_of : List ℕ → List ℕ → ℕ → ℕ → ℕ → List ℕ
combination_of ws src first stride len = listed len (λ b. sum_of ws src (first + b) stride)

-- A coefficient square has 'at most 80 by 80 field elements', and a line of it weighs as many strips.
abbrev pub max_sources : ℕ
max_sources = 80

-- A column is one strip to the row code: 4 rows of 512 bytes.
abbrev pub max_length : ℕ
max_length = 2048

-- The sources are not too many, the strips not too long, and every source lies inside.
pub record SourcesFit (first stride count len size : ℕ) : Type 0 where
  pub few : count ≤ max_sources
  pub short : len ≤ max_length
  pub reach : (q : ℕ) → q < count → first + q * stride + len ≤ size

unfoldable pub strip_at : List ℕ → ℕ → ℕ → List ℕ
strip_at x at s = listed s (λ b. get_or x (at + b) 0)

-- Adding a strip, or a multiple of it, to the strip of its length that starts at `at`.
abbrev pub added_by : (ℕ → ℕ) → ℕ → List ℕ → List ℕ → List ℕ
added_by g at src x = patched at (length src) (λ b. get_or x (at + b) 0 ⊕ g (get_or src b 0)) x

unfoldable pub added_scaled : ℕ → ℕ → List ℕ → List ℕ → List ℕ
added_scaled c at src x = added_by (λ v. c ⊗ v) at src x

unfoldable pub added_strip : ℕ → List ℕ → List ℕ → List ℕ
added_strip at src x = added_by (λ v. v) at src x

unfoldable pub doubled_strip : List ℕ → List ℕ
doubled_strip x = listed (length x) (λ b. double (get_or x b 0))

unfoldable pub doubled_while : ℕ → ℕ → List ℕ → List ℕ
doubled_while zero y x = x
doubled_while (suc m) y x = cond (ltb 0 y) (doubled_while m (y / 2) (doubled_strip x)) x

-- A factor below 32 is taken bit by bit, and a byte has eight: the strip is doubled for each bit past the lowest, up to
-- the highest that is set. Another factor leaves the strip as it was.
unfoldable pub used_up : ℕ → List ℕ → List ℕ
used_up c x = cond (ltb c 32) (doubled_while 8 (c / 2) x) x
