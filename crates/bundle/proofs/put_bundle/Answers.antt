-- `bundle::put_bundle` meets its contract: the bundle is the message of the planned places.
use borrow.Author.Rules.{rules}
use Rattle.document.specs.Bundle.{bundle_of}
use Rattle.document.proofs.Bundle.{lost_length}
use Rattle.bundle.proofs.Planned.{
  places_are,
  places_number,
  places_within,
}
use Rattle.bundle.proofs.put_bundle.Goals as goal

pub put-requires-clause-within : goal.put-requires-clause-within
put-requires-clause-within c =
    places_within c.args.p (search rules) c.args.f c.requires.node c.put_plan-end.ensures

pub put-requires-clause-room : goal.put-requires-clause-room
put-requires-clause-room c =
    rw (
      c.lost_content-content.ensures,
      lost_length,
      places_number c.args.p (search rules) c.args.f c.requires.node c.put_plan-end.ensures,
    )
    c.requires.room

pub returns : goal.returns
unfolding bundle_of
returns c =
    rw (
      c.lost_content-content.ensures,
      places_are c.args.p (search rules) c.args.f c.requires.node c.put_plan-end.ensures,
    )
    at c.put.ensures
