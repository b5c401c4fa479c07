use native.Mathlib.Omega.{arith}
use mathlib.Core.Path.{◌∙◌}
use Rattle.ksets.proofs.Pascal.{rule}
use Rattle.ksets.proofs.Cases.{wrote_none, wrote_nowhere, wrote_with, wrote_without}
use Rattle.ksets.proofs.+write_set.Goals as goal

pub returns-then-k-eq0 : goal.returns-then-k-eq0
returns-then-k-eq0 t c = wrote_none _ _ _ _ _ _ c.if-k-eq0.true

pub returns-then-n-eq0 : goal.returns-then-n-eq0
returns-then-n-eq0 t c = wrote_nowhere _ _ _ _ _ _ c.if-n-eq0.true

pub overflow_sub-total : goal.overflow_sub-total
overflow_sub-total t c =
    let a = c.args in
    omega (arith, c.share-with.ensures, rule a.n a.k (omega arith) (omega arith))

pub write_set-requires-else-pos-with : goal.write_set-requires-else-pos-with
write_set-requires-else-pos-with t c =
    let a = c.args in (
      omega arith,
      record {
        few = omega arith;
        room = omega arith;
        all = omega (arith, c.share-with.ensures, rule a.n a.k (omega arith) (omega arith));
      },
    )

pub returns-then-pos-with : goal.returns-then-pos-with
returns-then-pos-with t c =
    let a = c.args in
    c.write_set.ensures
    ∙ wrote_with a.set.now a.at a.b a.n a.k a.pos (omega arith) (omega arith) c.share-with.result
    c.share-with.ensures c.if-pos-with.true (omega arith)

pub returns-else-pos-with : goal.returns-else-pos-with
returns-else-pos-with t c =
    let a = c.args in
    c.write_set-else-pos-with.ensures
    ∙ wrote_without a.set.now a.at a.b a.n a.k a.pos (omega arith) (omega arith) c.share-with.result
    c.share-with.ensures c.if-pos-with.false
