-- `coefficients::denominators` meets its contract. The invariant: the first entries are the denominators as far as the
-- first q nodes.
use mathlib.Core.Path.{◌≡◌}
use lib.ListN.{length, take}
use Rattle.coefficients.proofs.Factors.{denominators_to}
use Rattle.coefficients.proofs.denominators.Given as goal

abbrev pub invariant-loop-q : goal.invariant-loop-q
invariant-loop-q l = (length l.all ≡ 24) × (take (length l.nodes) l.all ≡ denominators_to l.nodes l.q)
