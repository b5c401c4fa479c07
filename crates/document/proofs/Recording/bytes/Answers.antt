-- `Recording::bytes` meets its contract: the bytes of both numbers in a row.
use Rattle.fields.specs.Fields.{two_bytes, four_bytes}
use Rattle.document.specs.Message.{recording_bytes}
use Rattle.document.proofs.Recording.bytes.Goals as goal

pub returns : goal.returns
unfolding recording_bytes four_bytes two_bytes
returns c = simp (c.to_be_bytes.ensures, c.to_be_bytes-2.ensures)
