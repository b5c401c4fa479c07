-- The fields of the places passed are written.
use Rattle.lists.specs.Listed.{listed}
use Rattle.lists.specs.Put.{Wrote}
use Rattle.document.specs.Encoding.{strip_of}
use Rattle.document.specs.Message.{strip_fields}
use Rattle.message.specs.PlaceBytes.{place_from}
use Rattle.message.proofs.Message.put_strips.Given as goal

abbrev pub invariant-loop-i : goal.invariant-loop-i
invariant-loop-i l =
    Wrote l.initial.out l.at
    (strip_fields l.self.recording (strip_of l.self.profile l.array) (listed l.i (place_from l.self.places.now))) l.next
    l.out
