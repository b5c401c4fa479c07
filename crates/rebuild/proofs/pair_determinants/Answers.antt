-- `rebuild::pair_determinants` meets its contract. The invariant: the first q entries are the first q determinants.
use mathlib.Core.Path.{ap, ◌∙◌}
use Prim.Native.Nat.{◌%◌}
use native.Mathlib.Omega.{arith}
use lib.ListN.{get_or}
use Rattle.lists.specs.Listed.{listed}
use Rattle.lists.proofs.Written.{written_none, written_all, written_more}
use Rattle.document.specs.ByteField.{number}
use Rattle.document.proofs.Fields.{fields}
use Rattle.rebuild.specs.Rows.{determinant_at, determinants_of}
use Rattle.rebuild.proofs.pair_determinants.Goals as goal

pub loop-q-init : goal.loop-q-init
loop-q-init c = written_none _ _

pub loop-q-preserved : goal.loop-q-preserved
loop-q-preserved c =
    let l = c.loop-q in
    written_more _ l.q c.args.out.now l.out l.invariant (omega arith) _ (rw c.from.ensures at c.determinant.ensures)

pub returns : goal.returns
unfolding determinants_of
returns c =
    let l = c.loop-q in
    let p = c.args.p in
    (rw (fields c.p.view_is) at (written_all _ l.q c.args.out.now l.out l.invariant (omega arith)))
    ∙ ap (λ n. listed n (λ m. number (determinant_at p c.args.f (get_or c.args.nodes.now m 0 % p.a)))) c.requires
