-- `encode::encode_with` meets its contract: each return is the answer of the tests that led there.
use mathlib.Core.Path.{ap, ◌∙◌}
use Rattle.document.specs.Encoding.{coupled}
use Rattle.document.proofs.Fields.{fields, is_accepted}
use Rattle.encode.proofs.Answers.{data_refused, array_refused, done}
use Rattle.encode.proofs.encode_with.Goals as goal

pub returns-then-input-p : goal.returns-then-input-p
returns-then-input-p c = data_refused _ _ _ (rw (fields c.p.view_is) at c.if-input-p.true)

pub returns-then-array-p : goal.returns-then-array-p
returns-then-array-p c =
    array_refused _ _ _ (rw (fields c.p.view_is) at c.if-input-p.false) (rw (fields c.p.view_is) at c.if-array-p.true)

pub returns : goal.returns
returns c =
    done _ _ _ (rw (fields c.p.view_is) at c.if-input-p.false) (is_accepted c.p.view_is c.p.invariant)
    (rw (fields c.p.view_is) at c.if-array-p.false) (c.couple.ensures ∙ ap (coupled _) c.put_rows.ensures)
