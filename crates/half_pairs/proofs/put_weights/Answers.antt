-- `half_pairs::put_weights` meets its contract: a call leaves the weights at its node.
use mathlib.Core.Path.{◌≡◌, sym, subst, ◌∙◌}
use Prim.Native.Nat.{ℕ, ◌*◌}
use native.Mathlib.Omega.{arith}
use borrow.Author.Rules.{rules}
use lib.ListN.{take}
use lib.Seq.{take_all, length-take-le}
use Rattle.lists.proofs.Parts.{parts, none_parts, next_part}
use Rattle.ksets.proofs.Ranked.{risen_length}
use Rattle.document.proofs.Fields.{fields, is_accepted}
use Rattle.half_pairs.specs.HalfPairs.{weight_row, node_weights}
use Rattle.half_pairs.proofs.Table.{row_length, nodes_different}
use Rattle.half_pairs.proofs.put_weights.Goals as goal

pub denominators-requires-clause-different : goal.denominators-requires-clause-different
denominators-requires-clause-different c =
    nodes_different c.args.p (is_accepted c.p.view_is c.p.invariant) c.args.nodes.now c.requires.room.0

pub denominators-requires-clause-out_len : goal.denominators-requires-clause-out_len
denominators-requires-clause-out_len c =
    let size = rw (← c.p.view_is) at (risen_length c.requires.room.0) in
    rw size (length-take-le _ _ (omega arith))

pub returns : goal.returns
unfolding node_weights
returns c =
    rw (fields c.p.view_is) at
    (c.each_part.ensures (weight_row c.args.p.k c.args.nodes.now) (λ j row left h size e. search rules))
