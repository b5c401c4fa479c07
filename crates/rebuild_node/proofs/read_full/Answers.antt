-- `rebuild_node::read_full`: what a read put into the buffer stands behind what was read before.
use Rattle.std.proofs.Common.{rules, sym, subst}
use Rattle.std.specs.Io.KnownBytes.{Consumes}
use Rattle.rebuild_node.proofs.Bytes.{Consumes-twice, front_grown}
use Rattle.rebuild_node.proofs.read_full.Goals as goal

pub loop-done-preserved : goal.loop-done-preserved
loop-done-preserved g c =
    let within = c.loop-done.invariant.1 in
    let grown =
    front_grown c.loop-done.done c.in_ok-n.n c.loop-done.buf c.read_some.new.buf _ within c.in_ok-n.ensures.bound.0 in (
      search rules,
      search rules,
      subst (Consumes _ _) (sym grown) (Consumes-twice _ _ _ _ _ c.loop-done.invariant.2 c.in_ok-n.ensures.bytes.0),
    )
