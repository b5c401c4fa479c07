-- `lists::put_bytes` meets its contract: each turn writes one byte more.
use mathlib.Core.Path.{sym, ap, ◌∙◌}
use mathlib.Core.List.{List}
use Prim.Native.Nat.{ℕ, ◌+◌}
use native.Mathlib.Omega.{arith}
use lib.ListN.{get_or, set}
use lib.Seq.{take_all}
use Rattle.lists.specs.Put.{put}
use Rattle.lists.proofs.Put.{put_none, put_next}
use Rattle.lists.proofs.put_bytes.Goals as goal

pub loop-i-init : goal.loop-i-init
loop-i-init c = sym (put_none _ _)

pub loop-i-preserved : goal.loop-i-preserved
loop-i-preserved c =
    ap (λ (o : List ℕ). set o (c.args.at + c.loop-i.i) (get_or c.args.src.now c.loop-i.i 0)) c.loop-i.invariant
    ∙ put_next c.args.out.now c.args.src.now c.args.at c.loop-i.i (omega arith) (omega arith)

pub returns : goal.returns
returns c =
    record {
      ends = omega arith;
      holds = c.loop-i.invariant ∙ ap (put c.args.out.now c.args.at) (take_all c.loop-i.i c.args.src.now (omega arith));
    }
