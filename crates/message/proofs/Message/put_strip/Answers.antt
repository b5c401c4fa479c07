-- Four writes in a row are the field.
use mathlib.Core.Path.{◌≡◌, refl}
use mathlib.Core.List.{List, [], ◌∷◌, ◌++◌}
use Prim.Native.Nat.{ℕ, ◌≤◌}
use native.Mathlib.Omega.{arith}
use lib.ListN.{length}
use Rattle.lists.proofs.Put.{wrote_then, wrote_same}
use Rattle.fields.specs.Fields.{two_bytes, opening, field_of}
use Rattle.document.specs.declared.Place.{Place}
use Rattle.document.specs.declared.Recording.{Recording}
use Rattle.document.specs.Message.{recording_bytes, strip_content, strip_content_length}
use Rattle.document.proofs.Message.{content_length}
use Rattle.message.proofs.Message.put_strip.Goals as goal

parts : (q : Place) (r : Recording) (strip : List ℕ)
    → ((opening 3 (strip_content_length (length strip)) ++ (q.node.0 ∷ q.row.0 ∷ [])) ++ recording_bytes r) ++ strip
    ≡ field_of 3 (strip_content q r strip)
unfolding field_of opening two_bytes strip_content
parts q r strip = rw (content_length r (λ q. strip) (length strip) q refl) refl

pub returns : goal.returns
returns c =
    let room : c.args.at ≤ length c.args.out.now = omega (arith, c.requires.room) in
    let recording = rw c.bytes.ensures at c.put_bytes-after_recording.ensures in
    wrote_same (parts c.args.q c.args.self.now.recording c.args.strip.now)
    (wrote_then room
    (wrote_then room (wrote_then room c.put_opening-after_opening.ensures c.put_bytes-after_place.ensures) recording)
    c.put_bytes.ensures)
