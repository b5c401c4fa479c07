-- `survey::survey` meets its contract: the head of a call.
use mathlib.Core.Path.{sym, ◌∙◌}
use Rattle.document.specs.Survey.{survey_of}
use Rattle.document.proofs.Accepts.{refused_exit, passed}
use Rattle.survey.proofs.survey.Goals as goal

pub returns-in_err-profile : goal.returns-in_err-profile
unfolding survey_of
returns-in_err-profile c = refused_exit _ _ _ c.from_residual.result c.from_residual.ensures.1 c.in_err-profile.ensures

pub returns : goal.returns
unfolding survey_of
returns c = c.survey_with.ensures ∙ passed _ _ _ (sym c.in_ok-profile.ensures)
