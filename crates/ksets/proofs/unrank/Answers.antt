-- `ksets::unrank` meets its contract: the set fills the buffer.
use mathlib.Core.Path.{◌∙◌}
use Rattle.ksets.proofs.Cases.{wrote_whole}
use Rattle.ksets.proofs.unrank.Goals as goal

pub returns : goal.returns
returns c = c.write_set.ensures ∙ wrote_whole c.args.set.now c.args.n c.args.pos c.requires.1
