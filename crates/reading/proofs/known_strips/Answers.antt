-- `reading::known_strips` meets its contract: a call leaves what is known of its strip.
use borrow.Author.Rules.{rules}
use Rattle.document.proofs.Fields.{fields}
use Rattle.reading.specs.Steps.{known_strip, known_strips}
use Rattle.reading.proofs.known_strips.Goals as goal

pub returns : goal.returns
unfolding known_strips
returns c =
    let a = c.args in
    rw (fields c.p.view_is) at
    (c.each_part.ensures (known_strip a.p a.nodes.now a.columns.now) (λ z strip left h size e. search rules))
