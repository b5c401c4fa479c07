-- `coefficients::data_denominators` meets its contract: the front of the first nodes is the data nodes, which differ.
use mathlib.Core.Path.{◌≡◌, sym, ap, subst, ◌∙◌}
use lib.ListN.{length, take}
use Rattle.coefficients.specs.Weights.{Different, denominators_of}
use Rattle.coefficients.proofs.Data.{data_nodes_lem, data_different}
use Rattle.coefficients.proofs.data_denominators.Goals as goal

pub denominators-requires-clause-different : goal.denominators-requires-clause-different
denominators-requires-clause-different c =
    subst Different (sym (data_nodes_lem _ c.requires)) (data_different _ c.requires)

pub returns : goal.returns
returns c = c.denominators.ensures ∙ ap denominators_of (data_nodes_lem _ c.requires)
