-- `coefficients::weights_from` meets its contract, by what the functions it calls ensure.
use mathlib.Core.Path.{◌≡◌, ap, ap₂, ◌∙◌}
use Rattle.gf256.specs.Field.{inverse, total_of, inverses_of}
use Rattle.coupling.specs.Pairs.{multiple_of}
use Rattle.coefficients.specs.Weights.{shares_of, weights_from}
use Rattle.coefficients.proofs.weights_from.Goals as goal

pub returns : goal.returns
unfolding weights_from
returns c =
    let shares : c.invert_all.new.xs ≡ shares_of c.args.differences.now c.args.denominators.now =
    c.invert_all.ensures ∙ ap inverses_of c.multiply_all.ensures in (
      c.put_multiple.ensures
          ∙ ap₂ multiple_of (c.inverse_of.ensures ∙ ap inverse (c.total_of-total.ensures ∙ ap total_of shares)) shares,
      shares,
    )
