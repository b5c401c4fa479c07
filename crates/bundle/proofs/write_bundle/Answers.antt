-- `bundle::write_bundle` meets its contract: the head of a call.
use mathlib.Core.Path.{sym, ◌∙◌}
use Rattle.document.specs.Bundle.{write_of}
use Rattle.document.proofs.Accepts.{refused_exit, passed}
use Rattle.bundle.proofs.write_bundle.Goals as goal

pub returns-in_err-profile : goal.returns-in_err-profile
unfolding write_of
returns-in_err-profile c = refused_exit _ _ _ c.from_residual.result c.from_residual.ensures.1 c.in_err-profile.ensures

pub returns : goal.returns
unfolding write_of
returns c = c.write_with.ensures ∙ passed _ _ _ (sym c.in_ok-profile.ensures)
