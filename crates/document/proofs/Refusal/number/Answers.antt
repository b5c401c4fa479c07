-- `Refusal::number` meets its contract: each arm is a line of `number_of`.
use mathlib.Core.Path.{sym, ap}
use Rattle.document.specs.Refusals.{number_of}
use Rattle.document.proofs.Refusal.number.Goals as goal

pub returns-in-Shape : goal.returns-in-Shape
unfolding number_of
returns-in-Shape c = sym (ap number_of c.in-Shape.is)

pub returns-in-Constant : goal.returns-in-Constant
unfolding number_of
returns-in-Constant c = sym (ap number_of c.in-Constant.is)

pub returns-in-StripLength : goal.returns-in-StripLength
unfolding number_of
returns-in-StripLength c = sym (ap number_of c.in-StripLength.is)

pub returns-in-Edition : goal.returns-in-Edition
unfolding number_of
returns-in-Edition c = sym (ap number_of c.in-Edition.is)

pub returns-in-OutOfRange : goal.returns-in-OutOfRange
unfolding number_of
returns-in-OutOfRange c = sym (ap number_of c.in-OutOfRange.is)

pub returns-in-BufferLength : goal.returns-in-BufferLength
unfolding number_of
returns-in-BufferLength c = sym (ap number_of c.in-BufferLength.is)

pub returns-in-Form : goal.returns-in-Form
unfolding number_of
returns-in-Form c = sym (ap number_of c.in-Form.is)

pub returns-in-Head : goal.returns-in-Head
unfolding number_of
returns-in-Head c = sym (ap number_of c.in-Head.is)

pub returns-in-Misplaced : goal.returns-in-Misplaced
unfolding number_of
returns-in-Misplaced c = sym (ap number_of c.in-Misplaced.is)

pub returns-in-Stale : goal.returns-in-Stale
unfolding number_of
returns-in-Stale c = sym (ap number_of c.in-Stale.is)

pub returns-in-Ambiguous : goal.returns-in-Ambiguous
unfolding number_of
returns-in-Ambiguous c = sym (ap number_of c.in-Ambiguous.is)
