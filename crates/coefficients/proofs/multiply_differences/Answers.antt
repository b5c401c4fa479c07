-- `coefficients::multiply_differences` meets its contract: the part of the array that was lent holds the differences of
-- node q, with its own replaced by 1, and ones stand past it.
use mathlib.Core.Path.{◌≡◌, ap, ◌∙◌}
use native.Mathlib.Omega.{arith}
use lib.ListN.{length, set}
use Rattle.gf256.specs.Field.{products_of}
use Rattle.coefficients.specs.Weights.{factors_of, padded_to}
use Rattle.coefficients.proofs.Lists.{set_front}
use Rattle.coefficients.proofs.Lagrange.{differences_length}
use Rattle.coefficients.proofs.multiply_differences.Goals as goal

pub returns : goal.returns
unfolding factors_of
returns c =
    let q = c.args.q in
    let w = length c.args.out.now in
    let written : length c.differences.new.out ≡ length c.args.nodes.now =
    ap length c.differences.ensures ∙ differences_length _ _ in
    c.multiply_all.ensures
    ∙ ap (products_of c.args.out.now)
    (set_front 24 q c.differences.new.out written w (omega arith) (omega arith)
    ∙ ap (λ l. padded_to w (set l q 1)) c.differences.ensures)
