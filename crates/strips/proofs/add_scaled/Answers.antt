-- `strips::add_scaled` meets its contract.
use borrow.Author.Rules.{rules}
use Rattle.gf256.specs.Field.{◌⊗◌}
use Rattle.strips.specs.Strips.{added_scaled}
use Rattle.strips.proofs.add_scaled.Goals as goal

pub returns : goal.returns
unfolding added_scaled
returns c = c.add_by.ensures (λ v. c.args.c ⊗ v) (λ v w h p. search rules)
