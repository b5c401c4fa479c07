-- `reading::read_with` meets its contract: each return is the answer of the tests that led there.
use mathlib.Core.Path.{◌≡◌, sym, ◌∙◌}
use mathlib.Core.Bool.{true}
use Rattle.document.specs.Reading.{list_accepted}
use Rattle.document.proofs.Fields.{fields}
use Rattle.document.proofs.NodeLists.{decides_list_accepted}
use Rattle.reading.proofs.Answers.{list_refused, columns_refused, output_refused, in_due_form}
use Rattle.reading.proofs.read_with.Goals.{Else-not-accepts_list, Start}
use Rattle.reading.proofs.read_with.Goals as goal

-- past the list's test
module _ (c : Else-not-accepts_list) where
  listed_nodes : list_accepted c.args.p.n 0 c.args.p.k c.args.nodes.now ≡ true
  listed_nodes = sym (rw (fields c.p.view_is) at c.accepts_list.ensures) ∙ c.if-not-accepts_list.false

pub returns-then-not-accepts_list : goal.returns-then-not-accepts_list
returns-then-not-accepts_list c =
    list_refused _ _ _ _ (sym (rw (fields c.p.view_is) at c.accepts_list.ensures) ∙ c.if-not-accepts_list.true)

pub returns-then-columns-size : goal.returns-then-columns-size
returns-then-columns-size c =
    columns_refused _ _ _ _ (listed_nodes (goal.at.returns-then-columns-size c).Else-not-accepts_list)
    (rw (fields c.p.view_is) at c.if-columns-size.true)

pub returns-then-output-size : goal.returns-then-output-size
returns-then-output-size c =
    output_refused _ _ _ _ (listed_nodes (goal.at.returns-then-output-size c).Else-not-accepts_list)
    (rw (fields c.p.view_is) at c.if-columns-size.false) (rw (fields c.p.view_is) at c.if-output-size.true)

pub read_from-requires-clause-nodes_rising : goal.read_from-requires-clause-nodes_rising
read_from-requires-clause-nodes_rising c =
    (decides_list_accepted _ _ 0 _).0
    (listed_nodes (goal.at.read_from-requires-clause-nodes_rising c).Else-not-accepts_list)

pub returns : goal.returns
returns c =
    c.read_from.ensures
    ∙ in_due_form _ _ _ _ (listed_nodes (goal.at.returns c).Else-not-accepts_list)
    (rw (fields c.p.view_is) at c.if-columns-size.false) (rw (fields c.p.view_is) at c.if-output-size.false)
