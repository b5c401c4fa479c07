-- `rebuild_answer::put_answer` meets its contract: the column stays where it was rebuilt; a refused rebuild changes no
-- byte, and the line is written over what was there.
use mathlib.Core.Path.{◌≡◌, refl, ◌∙◌}
use mathlib.Core.List.{◌++◌}
use Prim.Native.Nat.{◌*◌, ◌≤◌, min}
use native.Mathlib.Nat.{mul-le-mul}
use native.Mathlib.Omega.{arith}
use lib.ListN.{length, take, drop}
use lib.Seq.{length-take-le, length_front}
use borrow.Author.Rules.{rules}
use Rattle.document.specs.Profile.{max_rows, max_strip}
use Rattle.document.specs.Program.{wanted_numbers}
use Rattle.rebuild_answer.proofs.Answers.{column_answered, line_answered, index_small}
use Rattle.rebuild_answer.proofs.put_answer.Goals.{After-min-room, After-rebuild_input, Start}
use Rattle.rebuild_answer.proofs.put_answer.Goals as goal

-- what was lent to the rebuild
module _ (r : After-rebuild_input) where
  same : r.numbers-p.result ≡ wanted_numbers r.args.input.now
  same = r.numbers-p.ensures.0

  fits : length (take r.min-room.result r.args.out.now) ≡ r.min-room.result
  fits =
      let within : r.min-room.result ≤ length r.args.out.now = search rules in length-take-le _ _ within

  lent : length (take r.min-room.result r.args.out.now)
      ≡ min (r.numbers-p.result.a * r.numbers-p.result.s) (max_rows * max_strip)
  lent = fits ∙ r.min-room.ensures

  -- the output with the lent part given back
  whole : length (r.rebuild_input.new.column ++ drop r.min-room.result r.args.out.now)
      ≡ length r.args.out.now
  whole =
      length_front r.args.out.now r.rebuild_input.new.column r.min-room.result
      r.rebuild_input.auto.column

pub put_line-requires : goal.put_line-requires
put_line-requires c = (
  omega (arith, whole (goal.at.put_line-requires c).After-rebuild_input, c.requires),
  index_small _ _ (same (goal.at.put_line-requires c).After-rebuild_input) _ (lent (goal.at.put_line-requires c).After-rebuild_input) c.rebuild_input.ensures c.in-Err.is,
)

pub returns-in-Ok : goal.returns-in-Ok
returns-in-Ok c =
    column_answered _ _ (same (goal.at.returns-in-Ok c).After-rebuild_input) _ (lent (goal.at.returns-in-Ok c).After-rebuild_input) c.rebuild_input.ensures c.in-Ok.is
    c.args.out.now c.min-room.result (c.rebuild_input.auto.column ∙ fits (goal.at.returns-in-Ok c).After-rebuild_input)

pub returns-in-Err : goal.returns-in-Err
returns-in-Err c =
    line_answered _ _ (same (goal.at.returns-in-Err c).After-rebuild_input) _ (lent (goal.at.returns-in-Err c).After-rebuild_input) c.rebuild_input.ensures c.in-Err.is
    c.args.out.now c.min-room.result refl c.put_line.ensures
