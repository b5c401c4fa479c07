-- The weights of the data nodes, by which every base symbol is a sum of data symbols.
--
-- data_nodes k        : the numbers of the data nodes
-- data_denominators k : the denominators of their weights
-- data_weights k j    : the weight of each data node at node j
use Rattle.std.specs.Prelude.{List, ℕ}
use Rattle.lists.specs.Listed.{listed}
use Rattle.algebra.specs.Weight.{weight}
use Rattle.document.specs.ByteField.{bytes, byte, number}
use Rattle.coefficients.specs.Weights.{denominators_of}

unfoldable pub data_nodes : ℕ → List ℕ
data_nodes k = listed k (λ q. q)

abbrev pub data_denominators : ℕ → List ℕ
data_denominators k = denominators_of (data_nodes k)

unfoldable pub data_weights : ℕ → ℕ → List ℕ
data_weights k j = listed k (λ q. number (weight bytes k byte q (byte j)))
