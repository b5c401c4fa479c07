-- `coefficients::denominators` meets its contract. The invariant: the first entries are the denominators as far as the
-- first q nodes.
use mathlib.Core.Path.{◌≡◌, sym, ap, ◌∙◌}
use mathlib.Core.List.{List}
use Prim.Native.Nat.{ℕ, ◌≤◌}
use native.Mathlib.Omega.{arith}
use lib.ListN.{length, take, drop}
use lib.Seq.{length-take-le, length_front, take-take, take-append-le}
use Rattle.gf256.specs.Field.{products_of}
use Rattle.gf256.proofs.Lists.{products_length}
use Rattle.coefficients.specs.Weights.{factors_of}
use Rattle.coefficients.proofs.Lists.{padded_product}
use Rattle.coefficients.proofs.Factors.{factors_length}
use Rattle.coefficients.proofs.Factors.{denominators_start, denominators_step, denominators_end}
use Rattle.coefficients.proofs.denominators.Goals as goal

pub loop-q-init : goal.loop-q-init
loop-q-init c = (omega arith, denominators_start c.args.nodes.now 24 c.requires.different.few)

pub loop-q-preserved : goal.loop-q-preserved
loop-q-preserved c =
    let l = c.loop-q in
    let w = c.max-w.result in
    let nodes = c.args.nodes.now in
    let k = length nodes in
    let e = c.multiply_differences.new.out in
    let covers : k ≤ w = omega (arith, c.max-w.ensures) in
    let lent : length (take w l.all) ≡ w = length-take-le w l.all (omega (arith, c.max-w.ensures, c.requires.different.few)) in
    let fits : k ≤ length (take w l.all) = omega (arith, lent, covers) in
    let size : length e ≡ length (take w l.all) = ap length c.multiply_differences.ensures ∙ products_length _ _ in (
      length_front l.all e w size ∙ l.invariant.0,
      take-append-le k e (drop w l.all) (omega (arith, size, fits)) ∙ ap (take k) c.multiply_differences.ensures
          ∙ padded_product (take w l.all) (factors_of nodes l.q) (factors_length nodes l.q) fits
          ∙ ap (λ (xs : List ℕ). products_of xs (factors_of nodes l.q)) (take-take k w l.all covers ∙ l.invariant.1)
          ∙ denominators_step nodes l.q (omega arith),
    )

pub returns : goal.returns
returns c =
    let nodes = c.args.nodes.now in
    c.copy_from_slice.ensures.after ∙ c.loop-q.invariant.1 ∙ denominators_end nodes (omega arith)
