-- `coefficients::parity_weights` meets its contract: a parity node is none of the data nodes.
use mathlib.Core.Path.{◌≡◌, sym, ap, subst, ◌∙◌}
use mathlib.Core.List.{List}
use Prim.Native.Nat.{ℕ}
use Rattle.coefficients.specs.Weights.{Different, Outside, denominators_of, weights_of}
use Rattle.coefficients.proofs.Data.{data_nodes_lem, data_different, parity_outside, data_weights_lem}
use Rattle.coefficients.proofs.parity_weights.Goals as goal

pub weights-requires-clause-different : goal.weights-requires-clause-different
weights-requires-clause-different c =
    let few = c.requires.out_len_bound.0 in subst Different (sym (data_nodes_lem _ few)) (data_different _ few)

pub weights-requires-clause-denominators_value : goal.weights-requires-clause-denominators_value
weights-requires-clause-denominators_value c =
    c.requires.denominators_value ∙ ap denominators_of (sym (data_nodes_lem _ c.requires.out_len_bound.0))

pub returns : goal.returns
returns c =
    let j = c.args.j in
    c.weights.ensures
    ∙ ap (λ (nodes : List ℕ). weights_of nodes j) (data_nodes_lem _ c.requires.out_len_bound.0)
    ∙ data_weights_lem _ j
