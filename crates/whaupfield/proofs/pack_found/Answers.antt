-- `whaupfield::pack_found` meets its contract, outcome by outcome.
use Rattle.std.specs.Prelude.{Ok}
use mathlib.Core.Path.{sym, ap, ◌∙◌}
use native.Mathlib.Nat.{add-zero, zero-add}
use native.Mathlib.Omega.{arith}
use Rattle.document.specs.Refusals.{answer_number}
use Rattle.document.specs.Survey.{survey_answer, outcome_number, failing_position, looked_in}
use Rattle.whaupfield.specs.Packed.{packed_survey}
use Rattle.whaupfield.proofs.pack_found.Goals as goal

pub pack_outcome-requires : goal.pack_outcome-requires
unfolding failing_position looked_in
pack_outcome-requires c =
    (omega arith, rw c.in-Failing.is at c.requires.0, rw c.in-Failing.is at c.requires.1)

pub pack_outcome-requires-in-Done : goal.pack_outcome-requires-in-Done
unfolding looked_in
pack_outcome-requires-in-Done c =
    (omega arith, omega arith, rw c.in-Done.is at c.requires.1)

pub pack_outcome-requires-in-Open : goal.pack_outcome-requires-in-Open
unfolding looked_in
pack_outcome-requires-in-Open c =
    (omega arith, omega arith, rw c.in-Open.is at c.requires.1)

pub returns-in-Failing : goal.returns-in-Failing
unfolding packed_survey answer_number survey_answer outcome_number failing_position looked_in
returns-in-Failing c = c.pack_outcome.ensures ∙ sym (ap (λ s. packed_survey (Ok s)) c.in-Failing.is ∙ zero-add _)

pub returns-in-Done : goal.returns-in-Done
unfolding packed_survey answer_number survey_answer outcome_number failing_position looked_in
returns-in-Done c = c.pack_outcome-in-Done.ensures ∙ sym (ap (λ s. packed_survey (Ok s)) c.in-Done.is ∙ zero-add _)

pub returns-in-Open : goal.returns-in-Open
unfolding packed_survey answer_number survey_answer outcome_number failing_position looked_in
returns-in-Open c = c.pack_outcome-in-Open.ensures ∙ sym (ap (λ s. packed_survey (Ok s)) c.in-Open.is ∙ zero-add _)
