-- `reading::read_from` meets its contract: how the elimination of the small system ends decides, and its inverse gives the
-- data.
use Rattle.std.specs.Prelude.{Ok}
use mathlib.Core.Path.{sym, ap, ◌∙◌}
use mathlib.Core.List.{List}
use Prim.Native.Nat.{ℕ}
use native.Mathlib.Omega.{arith}
use borrow.Author.Rules.{rules}
use Rattle.document.specs.Accepted.{Accepted}
use Rattle.half_pairs.proofs.System.{stuck_ambiguous, regular_inverse, regular_clear}
use Rattle.half_pairs.proofs.System.{count_few, system_end_lem}
use Rattle.reading.specs.Steps.{reading_answer}
use Rattle.reading.proofs.Data.{data_by_lem}
use Rattle.reading.proofs.read_from.Goals as goal

pub invert-requires : goal.invert-requires
invert-requires c =
    let few = count_few c.of_nodes-h.ensures (search rules) c.requires.nodes_rising in
    (few, few)

pub returns-in_default : goal.returns-in_default
unfolding reading_answer
returns-in_default c =
    let e = sym (system_end_lem c.of_nodes-h.ensures c.small_system-s.ensures) ∙ sym c.in_default.ensures in
    rw (stuck_ambiguous c.args.p c.args.nodes.now (search rules) c.requires.nodes_rising e)

pub returns : goal.returns
unfolding reading_answer
returns c =
    let a = c.args in
    let acc : Accepted a.p = search rules in
    let e = sym (system_end_lem c.of_nodes-h.ensures c.small_system-s.ensures) ∙ sym c.in-Ok.ensures in
    rw (regular_clear a.p a.nodes.now acc c.requires.nodes_rising e)
    (ap (λ (y : List ℕ). (Ok 0, y))
    (c.put_data.ensures
    ∙ data_by_lem a.p acc a.nodes.now c.requires.nodes_rising _
    (regular_inverse a.p a.nodes.now acc c.requires.nodes_rising e) a.columns.now c.requires.columns_len.0
    (λ e l. omega (arith, c.type_inv.columns e))))
