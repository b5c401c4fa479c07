-- `strips::copy` meets its contract.
use mathlib.Core.Path.{◌∙◌}
use Rattle.strips.proofs.Strip.{strip_part}
use Rattle.strips.proofs.copy.Goals as goal

pub returns : goal.returns
returns c = c.copy_from_slice.ensures.after ∙ strip_part _ _ _ c.requires
