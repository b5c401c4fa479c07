-- `rebuild_answer::put_line` meets its contract: the parts of the line are written in a row.
use mathlib.Core.Path.{◌∙◌}
use Prim.Native.Nat.{◌+◌, ◌≤◌}
use native.Mathlib.Omega.{arith}
use Rattle.document.proofs.Refusals.{number_bound}
use Rattle.rebuild_answer.proofs.Text.{number_ends, refused_text, at_text, line_written}
use Rattle.rebuild_answer.proofs.put_line.Goals.{After-put_number-index, After-put_number-number}
use Rattle.rebuild_answer.proofs.put_line.Goals as goal

-- where the number and the index end
number_end : (w : After-put_number-number) → w.put_number-number.result ≤ 10
number_end w = number_ends refused_text _ w.put_number-number.ensures

index_end : (v : After-put_number-index) → v.put_number-index.result ≤ 16
index_end v =
    let number : v.put_number-number.result ≤ 10 = number_ends refused_text _ v.put_number-number.ensures in
    let index : v.put_number-index.result ≤ v.put_number-number.result + 4 + 2 =
    number_ends at_text _ v.put_number-index.ensures in omega arith

pub put_number-number-requires : goal.put_number-number-requires
put_number-number-requires c =
    (omega (arith, c.requires.0), omega (arith, c.from.ensures, c.number.ensures, number_bound c.args.r))

pub put_number-index-requires : goal.put_number-index-requires
put_number-index-requires c =
    let end = number_end (goal.at.put_number-index-requires c).After-put_number-number in
    (omega (arith, end, c.requires.0), omega (arith, c.index.ensures, c.requires.1))

pub put_bytes-requires : goal.put_bytes-requires
put_bytes-requires c =
    omega (arith, index_end (goal.at.put_bytes-requires c).After-put_number-index, c.requires.0)

pub returns : goal.returns
returns c =
    line_written _ c.put_number-number.ensures c.put_number-index.ensures c.put_bytes.ensures
    (c.from.ensures ∙ c.number.ensures) c.index.ensures
