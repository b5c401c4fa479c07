-- `square::lift` meets its contract: a line is added, or none.
use Rattle.std.proofs.Common.{rules}
use Rattle.square.specs.Steps.{lifted}
use Rattle.square.proofs.lift.Goals as goal

pub returns-then-p-r : goal.returns-then-p-r
unfolding lifted
returns-then-p-r c = search rules

pub returns-else-p-r : goal.returns-else-p-r
unfolding lifted
returns-else-p-r c = search rules
