-- `whaupfield::whaupfield_survey` meets its contract: the answer of a survey, packed.
use mathlib.Core.Path.{ap, ◌∙◌}
use mathlib.Core.List.{List}
use Prim.Native.Nat.{ℕ}
use Rattle.std.specs.Prelude.{Result}
use Rattle.document.specs.declared.Refusal.{Refusal}
use Rattle.document.specs.declared.Surveyed.{Surveyed}
use Rattle.whaupfield.specs.Packed.{packed_survey_with}
use Rattle.whaupfield.proofs.Values.{survey_fits}
use Rattle.whaupfield.proofs.whaupfield_survey.Goals as goal

pub pack_survey-requires : goal.pack_survey-requires
pack_survey-requires c =
    rw (ap (λ (o : Result Surveyed Refusal × List ℕ). o.0) c.survey.ensures) (survey_fits _ _ _ _)

pub returns : goal.returns
returns c =
    ap (λ (n : ℕ). (n, c.survey.new.set)) c.pack_survey.ensures
    ∙ ap packed_survey_with c.survey.ensures
