-- `rebuild::own_scale` meets its contract: off the diagonal of coupling no factor is 0.
use mathlib.Core.Path.{sym, ap, ◌∙◌}
use native.Mathlib.Nat.{mod-lt}
use Rattle.gf256.specs.Field.{inverse}
use Rattle.document.proofs.Bounds.{A>0}
use Rattle.document.proofs.ByteField.{number_inv}
use Rattle.coupling.proofs.Determinants.{off_diagonal_above}
use Rattle.document.proofs.Fields.{fields, is_accepted}
use Rattle.rebuild.proofs.own_scale.Goals as goal

pub inverse_of-requires : goal.inverse_of-requires
inverse_of-requires c =
    let p = c.args.p in
    let acc = is_accepted c.p.view_is c.p.invariant in
    let column = mod-lt c.args.f.0 (A>0 p acc) in
    rw (rw (fields c.p.view_is) at c.factor.ensures)
    (off_diagonal_above p acc _ _ column c.requires.0 (λ e. c.requires.1 (sym e)))

pub returns : goal.returns
returns c =
    c.inverse_of.ensures ∙ ap inverse (rw (fields c.p.view_is) at c.factor.ensures) ∙ sym (number_inv _)
