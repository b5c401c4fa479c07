-- `reading::put_columns` meets its contract: a call leaves the base strips of its node.
use borrow.Author.Rules.{rules}
use Rattle.document.proofs.Fields.{fields}
use Rattle.reading.specs.Steps.{base_column, base_columns}
use Rattle.reading.proofs.put_columns.Goals as goal

pub returns : goal.returns
unfolding base_columns
returns c =
    let a = c.args in
    rw (fields c.p.view_is) at
    (c.each_part.ensures (base_column a.p a.nodes.now a.y.now) (λ j column left h size e. search rules))
