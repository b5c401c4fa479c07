-- How a combination is made, by Horner's rule over the bits of the weights: what the inner functions leave. A plane is
-- one bit of all the weights.
--
-- shifted_by i ws                  : the weights without their i lowest bits
-- bits_at i ws                     : bit i of each weight, 0 or 1
-- plane_of i ws src first stride x : one step of the rule: x doubled, and the sources added whose weight has bit i
-- offsets_of ds first stride       : the offsets first + q * stride of the sources q whose bit is not 0
-- added_at os src b                : the bytes at b past each of the offsets os, summed
-- Gives post g                    : what a call gives of each byte is what g gives of it
-- added_with g os src x            : g of each byte of x, with the strips of src at the offsets os added
-- part_of os src j n               : n bytes of src at the offset with number j; zeros where there is no such offset
-- sum_four v s0 s1 s2 s3 b         : v with the bytes at b of four strips added
-- added_four g x s0 s1 s2 s3       : g of each byte of x, with four strips added
-- Alike x s0 s1 s2 s3             : the four strips are as long as x
use Rattle.std.specs.Prelude.{◌≡◌, List, [], ◌∷◌, map, ℕ, zero, suc, ◌+◌, ◌/◌, ◌%◌, ◌^◌, ◌<◌, length, get_or}
use Rattle.lists.specs.Listed.{listed}
use Rattle.gf256.specs.Field.{◌⊕◌, double}
use Rattle.strips.specs.Strips.{sum_of}

unfoldable pub shifted_by : ℕ → List ℕ → List ℕ
shifted_by i ws = map (λ w. w / 2 ^ i) ws

unfoldable pub bits_at : ℕ → List ℕ → List ℕ
bits_at i ws = map (λ w. w / 2 ^ i % 2) ws

unfoldable pub plane_of : ℕ → List ℕ → List ℕ → ℕ → ℕ → List ℕ → List ℕ
plane_of i ws src first stride x =
    listed (length x) (λ b. double (get_or x b 0) ⊕ sum_of (bits_at i ws) src (first + b) stride)

unfoldable pub offsets_of : List ℕ → ℕ → ℕ → List ℕ
offsets_of [] first stride = []
offsets_of (zero ∷ ds) first stride = offsets_of ds (first + stride) stride
offsets_of (suc d ∷ ds) first stride = first ∷ offsets_of ds (first + stride) stride

unfoldable pub added_at : List ℕ → List ℕ → ℕ → ℕ
added_at [] src b = 0
added_at (o ∷ os) src b = get_or src (o + b) 0 ⊕ added_at os src b

abbrev pub Gives : (ℕ → ℕ → Type 0) → (ℕ → ℕ) → Type 0
Gives post g = (v w : ℕ) → v < 256 → post v w → w ≡ g v

unfoldable pub added_with : (ℕ → ℕ) → List ℕ → List ℕ → List ℕ → List ℕ
added_with g os src x = listed (length x) (λ b. g (get_or x b 0) ⊕ added_at os src b)

-- Where there is no such offset, it is the end of src: past it every byte reads as 0.
unfoldable pub part_of : List ℕ → List ℕ → ℕ → ℕ → List ℕ
part_of os src j n = listed n (λ b. get_or src (get_or os j (length src) + b) 0)

abbrev pub sum_four : ℕ → List ℕ → List ℕ → List ℕ → List ℕ → ℕ → ℕ
sum_four v s0 s1 s2 s3 b = v ⊕ get_or s0 b 0 ⊕ get_or s1 b 0 ⊕ get_or s2 b 0 ⊕ get_or s3 b 0

unfoldable pub added_four : (ℕ → ℕ) → List ℕ → List ℕ → List ℕ → List ℕ → List ℕ → List ℕ
added_four g x s0 s1 s2 s3 = listed (length x) (λ b. sum_four (g (get_or x b 0)) s0 s1 s2 s3 b)

pub record Alike (x s0 s1 s2 s3 : List ℕ) : Type 0 where
  pub same0 : length s0 ≡ length x
  pub same1 : length s1 ≡ length x
  pub same2 : length s2 ≡ length x
  pub same3 : length s3 ≡ length x
