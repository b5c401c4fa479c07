-- `survey::survey_from` meets its contract: each return is the answer to what the search found.
use mathlib.Core.Path.{◌≡◌, refl, sym, ap, ◌∙◌}
use Prim.Native.Nat.{min, ◌+◌, ◌-◌, ◌≤◌}
use native.Mathlib.Omega.{arith}
use Rattle.lists.proofs.Lent.{front}
use Rattle.document.specs.Survey.{looked_at}
use Rattle.document.proofs.Fields.{fields, is_accepted}
use Rattle.document.proofs.Surveys.{first_found}
use Rattle.survey.proofs.Answers.{failing, done, left_open}
use Rattle.survey.proofs.survey_from.Goals.{After-min-looked}
use Rattle.survey.proofs.survey_from.Goals as goal

-- the number of sets to look at
module _ (c : After-min-looked) where
  number : c.min-looked.result ≡ looked_at c.args.p c.args.start c.args.most
  number = c.min-looked.ensures ∙ ap (λ t. min c.args.most (t - c.args.start)) c.requires.0

  within : c.args.start + c.min-looked.result ≤ c.args.total
  within = omega (arith, c.min-looked.ensures, c.requires.1)

  few : c.args.p.k ≤ 24
  few = omega (arith, (is_accepted c.p.view_is c.p.invariant).shape)

pub overflow_add-end : goal.overflow_add-end
overflow_add-end c = omega (arith, within c, c.ranges.total)

pub overflow_sub-passed : goal.overflow_sub-passed
overflow_sub-passed c = rw (c.in-Some.ensures.some _ refl).0 (first_found _ _ _).low

pub returns-in-Some : goal.returns-in-Some
returns-in-Some c =
    let w = (goal.at.returns-in-Some c).After-min-looked in
    let f = c.in-Some.ensures.some _ refl in
    let written = (rw (fields c.p.view_is) at c.copy_from_slice.ensures.after)
    ∙ front c.first_failing.new.set _ c.in-Some.ensures.size in
    failing _ _ _ _ _ _ (number w) f.0 f.1 _ (written ∙ c.in-Some.ensures.set _ refl)

pub returns-then-end-total : goal.returns-then-end-total
returns-then-end-total c =
    let w = (goal.at.returns-then-end-total c).After-min-looked in
    done _ _ _ _ _ _ (number w) (c.in_default.ensures.none refl) (omega arith) (c.if-end-total.true ∙ c.requires.0)

pub returns : goal.returns
returns c =
    let w = (goal.at.returns c).After-min-looked in
    left_open _ _ _ _ _ _ (number w) (c.in_default.ensures.none refl) (omega arith)
    (λ e. c.if-end-total.false (e ∙ sym c.requires.0))
