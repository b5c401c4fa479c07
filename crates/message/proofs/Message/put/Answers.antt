-- The head, then the fields 03.
use mathlib.Core.List.{append_assoc}
use Prim.Native.Nat.{ℕ, zero-le}
use native.Mathlib.Omega.{arith}
use lib.ListN.{length-append}
use Rattle.lists.proofs.Put.{wrote_then, wrote_same}
use Rattle.fields.specs.Fields.{field_of}
use Rattle.fields.proofs.Fields.{field_length}
use Rattle.document.specs.Message.{message_of}
use Rattle.message.proofs.Message.put.Goals as goal

pub put_strips-requires-clause-room : goal.put_strips-requires-clause-room
put_strips-requires-clause-room c =
    omega (arith, c.put_head-after_head.ensures.ends, length-append {A = ℕ}, field_length)

pub returns : goal.returns
unfolding message_of
returns c =
    wrote_same (append_assoc (field_of 1 _) (field_of 2 _) _)
    (wrote_then zero-le c.put_head-after_head.ensures c.put_strips.ensures)
