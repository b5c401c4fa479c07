-- Field 01, then the opening and the content of field 02.
use mathlib.Core.List.{append_assoc}
use Prim.Native.Nat.{zero-le}
use Rattle.lists.proofs.Put.{wrote_then, wrote_same}
use Rattle.fields.specs.Fields.{field_of}
use Rattle.message.proofs.Message.put_head.Goals as goal

pub returns : goal.returns
unfolding field_of
returns c =
    wrote_same (append_assoc (field_of 1 _) _ _)
    (wrote_then zero-le (wrote_then zero-le c.put-after_profile.ensures c.put_opening-after_opening.ensures)
    c.put_bytes.ensures)
