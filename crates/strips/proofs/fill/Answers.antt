-- `strips::fill` meets its contract.
use mathlib.Core.Path.{◌∙◌}
use borrow.Author.Rules.{rules}
use Rattle.strips.proofs.Strip.{replicated}
use Rattle.strips.proofs.fill.Goals as goal

pub returns : goal.returns
returns c = c.fill.ensures.after (search rules) ∙ replicated _ _
