-- `rebuild::Rows::put_coefficients` meets its contract: the part of the array that was lent holds the weights, divided by
-- the determinants; a multiple of them is written.
use mathlib.Core.Path.{sym, ap, subst, ◌∙◌}
use mathlib.Core.List.{List}
use lib.ListN.{length}
use Rattle.gf256.specs.Field.{quotients_of, NoZero}
use Rattle.lists.proofs.Lent.{front}
use Rattle.document.proofs.Fields.{fields, is_accepted}
use Rattle.rebuild.proofs.Factors.{determinants_length, determinants_no_zero}
use Rattle.rebuild.proofs.Coefficients.{shares_length, coefficients_scaled}
use Rattle.rebuild.proofs.Rows.put_coefficients.Goals as goal

pub divided_weights-requires-clause-different : goal.divided_weights-requires-clause-different
divided_weights-requires-clause-different c =
    let r = c.args.self.now in
    (r.nodes.different, rw (fields c.p.view_is) (r.nodes.outside c.args.i c.requires.0), r.divisors.0)

pub divided_weights-requires-clause-no_zero : goal.divided_weights-requires-clause-no_zero
divided_weights-requires-clause-no_zero c =
    let r = c.args.self.now in
    let alike = r.divisors.1 in (
      subst NoZero (sym alike) (determinants_no_zero r.p r.f (is_accepted c.p.view_is c.p.invariant) r.chosen.now),
      ap length alike ∙ determinants_length r.p r.f r.chosen.now,
    )

pub returns : goal.returns
returns c =
    let r = c.args.self.now in
    let shares = (rw (fields c.p.view_is) at c.divided_weights.ensures) ∙ ap (quotients_of _) r.divisors.1 in
    let written = ap length shares ∙ shares_length r.p r.f r.chosen.now c.args.i ∙ r.nodes.count in
    (rw (fields c.p.view_is) at c.put_multiple.ensures)
    ∙ coefficients_scaled r.p r.f r.chosen.now c.args.i r.nodes.count c.scale-c.ensures
    (front c.divided_weights.new.out _ written ∙ shares)
