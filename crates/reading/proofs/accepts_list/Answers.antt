-- `reading::accepts_list` meets its contract. The invariant: the list is accepted exactly if what is left of it is,
-- from the lowest number on that may come next.
use mathlib.Core.Path.{sym, ◌∙◌}
use native.Mathlib.Omega.{arith}
use Rattle.reading.proofs.NodeLists.{list_length, too_low, too_high, next_entry, all_entries}
use Rattle.reading.proofs.accepts_list.Goals.{then-x-lowest-via-then-x-lowest, then-x-lowest-via-else-x-lowest+then-n-x}
use Rattle.reading.proofs.accepts_list.Goals as goal

pub returns-then-nodes-k : goal.returns-then-nodes-k
returns-then-nodes-k c = let a = c.args in list_length a.n a.k 0 a.nodes.now c.if-nodes-k.true

pub returns-then-x-lowest : goal.returns-then-x-lowest
returns-then-x-lowest c =
    let l = c.loop-node in
    let a = c.args in
    let i = c.loop-node-test.true in
    let e = c.if-nodes-k.false in
    sym
    (elim c.then-x-lowest.branch [
      | then-x-lowest-via-then-x-lowest w ↦ too_low a.n a.k l.lowest l.node-index a.nodes.now i e w.if-x-lowest.true
      | then-x-lowest-via-else-x-lowest+then-n-x w ↦
          too_high a.n a.k l.lowest l.node-index a.nodes.now i e (omega (arith, w.if-x-lowest.false)) w.if-n-x.true
    ])
    ∙ l.invariant

pub loop-node-preserved : goal.loop-node-preserved
loop-node-preserved c =
    let l = c.loop-node in
    let a = c.args in
    sym
    (next_entry a.n a.k l.lowest l.node-index a.nodes.now c.loop-node-test.true c.if-nodes-k.false
    (omega (arith, c.if-x-lowest.false)) (omega (arith, c.if-n-x.false)))
    ∙ l.invariant

pub returns : goal.returns
returns c =
    let l = c.loop-node in
    let a = c.args in
    all_entries a.n a.k l.lowest l.node-index a.nodes.now (omega arith) (omega (arith, c.if-nodes-k.false))
    ∙ l.invariant
