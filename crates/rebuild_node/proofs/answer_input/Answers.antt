-- `rebuild_node::answer_input`: what the answer wrote lies within the output, and it is the answer to the whole input.
use Rattle.std.proofs.Common.{rules, ◌∙◌, ap, length}
use Rattle.lists.proofs.Put.{wrote_fits, wrote_front}
use Rattle.rebuild_node.proofs.Bytes.{answer_of_read, answer_written}
use Rattle.rebuild_node.proofs.answer_input.Goals as goal

pub slice_bounds-output-end : goal.slice_bounds-output-end
slice_bounds-output-end g c = let fits = wrote_fits c.answer-n.ensures in search rules

pub slice_bounds-write_all-end : goal.slice_bounds-write_all-end
slice_bounds-write_all-end g c = let fits = wrote_fits c.answer-n.ensures in search rules

pub returns : goal.returns
returns g c =
    answer_written c.write_all.result _ _ _ _ _ (wrote_front c.answer-n.ensures).1
    (answer_of_read _ _ c.read_full.new.buf c.in_ok-got.got
    (c.read_full.auto.buf ∙ ap length c.input_buffer-input.ensures)
    c.in_ok-got.ensures.bound.0 c.in_ok-got.ensures.bytes c.in_ok-got.ensures.end)
    c.write_all.ensures.bytes
