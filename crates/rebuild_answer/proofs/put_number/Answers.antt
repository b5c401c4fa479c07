-- `rebuild_answer::put_number` meets its contract: the number is written where the text ends.
use native.Mathlib.Omega.{arith}
use Rattle.lists.proofs.Put.{wrote_then}
use Rattle.rebuild_answer.proofs.put_number.Goals as goal

pub returns : goal.returns
returns c =
    wrote_then (omega (arith, c.requires)) c.put_bytes-next.ensures c.put_decimal.ensures
