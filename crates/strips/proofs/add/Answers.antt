-- `strips::add` meets its contract.
use borrow.Author.Rules.{rules}
use Rattle.strips.specs.Strips.{added_strip}
use Rattle.strips.proofs.add.Goals as goal

pub returns : goal.returns
unfolding added_strip
returns c = c.add_by.ensures (λ v. v) (λ v w h p. search rules)
