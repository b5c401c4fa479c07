-- `ksets::step` meets its contract: from the last entry that can be raised on, the next set is a run. A set that is not
-- the last one has such an entry.
use Rattle.std.proofs.Common.{arith, sym, ◌∙◌, true≢false}
use Rattle.std.proofs.lemmas.Grind.{common_steps}
use Rattle.ksets.proofs.Raising.{steps_free, raised_next}
use Rattle.ksets.proofs.step.Goals as goal

pub returns-in-Some : goal.returns-in-Some
returns-in-Some c =
    grind (arith, common_steps, raised_next c.args.n c.in-Some.at c.args.set.now c.in-Some.ensures)

pub returns-in_default : goal.returns-in_default
returns-in_default c = absurd (true≢false (sym c.in_default.ensures ∙ steps_free c.args.n c.args.set.now c.requires))
