-- `coefficients::weights` meets its contract: the part of the array that was lent holds the differences, and nothing
-- that is divided by is 0.
use mathlib.Core.Path.{◌≡◌, sym, ap, ap₂, subst, ◌∙◌}
use mathlib.Core.List.{◌++◌}
use Prim.Native.Nat.{ℕ, ◌<◌}
use native.Mathlib.Omega.{arith}
use lib.ListN.{length, get_or, take, drop, replicate}
use Rattle.coefficients.specs.Weights.{differences_of, Divisors, weights_from}
use Rattle.lists.proofs.Lent.{front}
use Rattle.coefficients.proofs.Lagrange.{differences_length, divisors, weights_from_lem, weights_none}
use Rattle.coefficients.proofs.weights.Goals.{After-differences}
use Rattle.coefficients.proofs.weights.Goals as goal

-- The part that was lent holds the differences.
lent : (c : After-differences)
    → let nodes = c.args.nodes.now in
    take (length nodes) (c.differences.new.out ++ drop (length nodes) (replicate 24 0)) ≡ differences_of nodes c.args.at
lent c =
    front c.differences.new.out _ (ap length c.differences.ensures ∙ differences_length _ _) ∙ c.differences.ensures

-- The nodes are bytes.
small : (c : After-differences) (i : ℕ) → get_or c.args.nodes.now i 0 < 256
small c i = omega (arith, c.type_inv.nodes i)

-- There are some nodes.
some : (c : After-differences) → 0 < length c.args.nodes.now
some c = omega (arith, c.if-k-eq0.false)

pub weights_from-requires-clause-divisors : goal.weights_from-requires-clause-divisors
weights_from-requires-clause-divisors c =
    let after = (goal.at.weights_from-requires-clause-divisors c).After-differences in
    let ds = differences_of c.args.nodes.now c.args.at in
    subst (λ xs. Divisors xs c.args.denominators.now) (sym (lent after))
    (subst (λ ys. Divisors ds ys) (sym c.requires.denominators_value)
    (divisors c.args.nodes.now (small after) c.requires.different c.args.at (omega arith) c.requires.outside (some after)))

pub returns-then-k-eq0 : goal.returns-then-k-eq0
returns-then-k-eq0 c =
    weights_none c.args.nodes.now c.args.out.now c.args.at c.if-k-eq0.true c.requires.out_len

pub returns : goal.returns
returns c =
    let after = (goal.at.returns c).After-differences in
    c.weights_from.ensures.0 ∙ ap₂ weights_from (lent after) c.requires.denominators_value
    ∙ weights_from_lem c.args.nodes.now (small after) c.requires.different c.args.at (omega arith) c.requires.outside
    (some after)
