-- `whaupfield::whaupfield_inverse` meets its contract: the inverse or that there is none, packed.
use mathlib.Core.Path.{ap, ◌∙◌}
use Rattle.whaupfield.specs.Packed.{packed_inverse}
use Rattle.whaupfield.proofs.whaupfield_inverse.Goals as goal

pub returns : goal.returns
returns c = c.pack_inverse.ensures ∙ ap packed_inverse c.inverse.ensures
