-- `rebuild::rebuild` meets its contract: the head of a call.
use mathlib.Core.Path.{sym, ◌∙◌}
use Rattle.document.specs.Rebuild.{rebuild_of}
use Rattle.document.proofs.Accepts.{refused_exit, passed}
use Rattle.rebuild.proofs.rebuild.Goals as goal

pub returns-in_err-profile : goal.returns-in_err-profile
unfolding rebuild_of
returns-in_err-profile c = refused_exit _ _ _ c.from_residual.result c.from_residual.ensures.1 c.in_err-profile.ensures

pub returns : goal.returns
unfolding rebuild_of
returns c = c.rebuild_with.ensures ∙ passed _ _ _ (sym c.in_ok-profile.ensures)
