-- `bundle::check` meets its contract: the bundle is the message of the planned places.
use borrow.Author.Rules.{rules}
use Rattle.document.specs.Bundle.{bundle_tests}
use Rattle.bundle.proofs.Planned.{places_are}
use Rattle.bundle.proofs.check.Goals as goal

pub returns : goal.returns
unfolding bundle_tests
returns c =
    rw (
      c.lost_content-content.ensures,
      places_are c.args.p (search rules) c.args.f c.requires c.put_plan-end.ensures,
    )
    at c.check.ensures
