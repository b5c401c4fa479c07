-- `gf256::divide_all` meets its contract: a copy of the divisors becomes their inverses.
use mathlib.Core.Path.{ap, ◌∙◌}
use Rattle.gf256.specs.Field.{products_of, inverses_of, quotients_of}
use Rattle.gf256.proofs.divide_all.Goals as goal

pub returns : goal.returns
unfolding quotients_of
returns c =
    c.multiply_all.ensures
    ∙ ap (products_of c.args.xs.now) (c.invert_all.ensures ∙ ap inverses_of c.copy_from_slice.ensures.after)
