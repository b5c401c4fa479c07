-- `document::accepts_edition` meets its contract: what is not below the first edition is one if it is not above the
-- last.
use mathlib.Core.Path.{sym}
use native.Mathlib.Omega.{arith}
use borrow.Author.Tests.{le-leb}
use Rattle.document.specs.Profile.{edition_accepted}
use Rattle.document.proofs.Decides.{decides_false}
use Rattle.document.proofs.Accepts.{decides_edition}
use Rattle.document.proofs.accepts_edition.Goals as goal

pub returns-then-edition-lt-FIRST_EDITION : goal.returns-then-edition-lt-FIRST_EDITION
returns-then-edition-lt-FIRST_EDITION c = sym (decides_false _ (decides_edition _) (λ h. omega (arith, h)))

pub returns : goal.returns
unfolding edition_accepted
returns c = sym (simp (le-leb 1 c.args.edition (omega arith)))
