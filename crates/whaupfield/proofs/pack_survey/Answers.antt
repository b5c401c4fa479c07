-- `whaupfield::pack_survey` meets its contract: what is found, or the refusal.
use mathlib.Core.Path.{sym, ap, ◌∙◌}
use native.Mathlib.Nat.{add-zero}
use Rattle.document.specs.Refusals.{answer_number}
use Rattle.document.specs.Survey.{survey_answer, outcome_number, failing_position, looked_in}
use Rattle.whaupfield.specs.Packed.{packed_survey}
use Rattle.whaupfield.proofs.pack_survey.Goals as goal

pub pack_found-requires : goal.pack_found-requires
pack_found-requires c = rw c.in-Ok.is at c.requires

pub returns-in-Ok : goal.returns-in-Ok
returns-in-Ok c = c.pack_found.ensures ∙ sym (ap packed_survey c.in-Ok.is)

pub returns-in-Err : goal.returns-in-Err
unfolding packed_survey answer_number survey_answer outcome_number failing_position looked_in
returns-in-Err c = c.number.ensures ∙ sym (ap packed_survey c.in-Err.is ∙ add-zero _)
