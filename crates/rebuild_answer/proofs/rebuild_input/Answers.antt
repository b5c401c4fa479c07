-- `rebuild_answer::rebuild_input` meets its contract: what follows the head is the bundle.
use mathlib.Core.Path.{◌∙◌}
use Rattle.rebuild_answer.proofs.Answers.{bundle_part, read_rebuilt}
use Rattle.rebuild_answer.proofs.rebuild_input.Goals as goal

pub returns : goal.returns
returns c =
    c.rebuild.ensures
    ∙ read_rebuilt c.args.input.now c.args.p c.args.column.now c.byte_in-lost.ensures
    c.recording-r.ensures (bundle_part c.args.input.now c.min-head.result c.min-head.ensures)
