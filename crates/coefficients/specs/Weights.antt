-- Lagrange's weights on lists of node numbers, and what they are computed from.
--
-- Different nodes       : at most max_nodes nodes, no two of them equal
-- Outside nodes at      : the node `at` is none of the nodes
-- points nodes i        : the point of the i-th node, 'the field element with that number'
-- weights_of nodes at    : the weight at `at` of each of the nodes
-- differences_of nodes x : the sum of x and each of the nodes
-- factors_of nodes q     : the differences for the q-th node, with 1 in place of its own, which is 0
-- padded_to m xs         : xs, which has at most m entries, with ones past it up to m
-- denominator_of nodes q : the product of the sums of the q-th node and each other node
-- denominators_of nodes  : the denominator of each of the nodes
-- shares_of ds ms        : the inverse of the product of each of the differences ds and its denominator, in the list ms
-- Divisors ds ms        : a denominator for each difference, no product of the two is 0, nor is the sum of the shares
-- weights_from ds ms     : each of the shares divided by the sum of all
use Rattle.std.specs.Prelude.{◌≡◌, ◌≢◌, List, ℕ, ◌≤◌, ◌<◌, length, get_or, set}
use Rattle.lists.specs.Listed.{listed}
use Rattle.gf256.specs.Field.{inverse, total_of, products_of, inverses_of, NoZero}
use Rattle.coupling.specs.Pairs.{multiple_of}
use Rattle.algebra.specs.Weight.{weight, product_but}
use Rattle.document.specs.Profile.{max_nodes}
use Rattle.document.specs.ByteField.{bytes, Byte, byte, number}

-- At most as many nodes as a profile can have, no two equal.
pub record Different (nodes : List ℕ) : Type 0 where
  pub few : length nodes ≤ max_nodes
  pub apart : (i j : ℕ) → i < j → j < length nodes → get_or nodes i 0 ≢ get_or nodes j 0

-- A node at which the polynomial is wanted and not given.
abbrev pub Outside : List ℕ → ℕ → Type 0
Outside nodes at = (i : ℕ) → i < length nodes → get_or nodes i 0 ≢ at

-- 'Node j has the point j, the field element with that number.'
abbrev pub points : List ℕ → ℕ → Byte
points nodes i = byte (get_or nodes i 0)

-- The value at `at` of a polynomial is the sum of its values at the nodes, each times its weight.
unfoldable pub weights_of : List ℕ → ℕ → List ℕ
weights_of nodes at = listed (length nodes) (λ q. number (weight bytes (length nodes) (points nodes) q (byte at)))

-- The difference of x and each node: adding is subtracting.
unfoldable pub differences_of : List ℕ → ℕ → List ℕ
differences_of nodes x = listed (length nodes) (λ i. number (bytes.add (byte x) (points nodes i)))

-- One factor of each denominator: the difference of its node and node q. Node q has none with itself.
unfoldable pub factors_of : List ℕ → ℕ → List ℕ
factors_of nodes q = set (differences_of nodes (get_or nodes q 0)) q 1

-- A list in a longer one that is multiplied whole: a factor 1 changes nothing.
unfoldable pub padded_to : ℕ → List ℕ → List ℕ
padded_to m xs = listed m (λ i. get_or xs i 1)

-- What the weight of node q is divided by, wherever it is taken.
unfoldable pub denominator_of : List ℕ → ℕ → ℕ
denominator_of nodes q = number (product_but bytes (length nodes) q (λ i. bytes.add (points nodes q) (points nodes i)))

-- The denominators of all nodes: they do not depend on where the weights are taken.
unfoldable pub denominators_of : List ℕ → List ℕ
denominators_of nodes = listed (length nodes) (denominator_of nodes)

-- The inverse of the product of a difference and its denominator: the weight but for a factor that all have in common.
abbrev pub shares_of : List ℕ → List ℕ → List ℕ
shares_of differences denominators = inverses_of (products_of differences denominators)

-- What a caller shows of all that is divided by: none is 0.
pub record Divisors (differences denominators : List ℕ) : Type 0 where
  pub alike : length differences ≡ length denominators
  pub no_zero : NoZero (products_of differences denominators)
  pub no_zero_total : 0 < total_of (shares_of differences denominators)

-- The weights in barycentric form: they add up to 1, so that each is its share divided by the sum of the shares.
unfoldable pub weights_from : List ℕ → List ℕ → List ℕ
weights_from differences denominators =
    multiple_of (inverse (total_of (shares_of differences denominators))) (shares_of differences denominators)
