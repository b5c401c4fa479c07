-- A message is short.
use native.Mathlib.Omega.{arith}
use borrow.Author.Rules.{rules}
use Rattle.message.proofs.Fit.{fields_bound}
use Rattle.message.proofs.strip_field.Goals as goal

pub overflow_mul-result : goal.overflow_mul-result
overflow_mul-result c =
    rw c.strip_stride.ensures (omega (arith, fields_bound c.args.p c.args.m c.args.i (search rules) c.requires))

pub overflow_add-result : goal.overflow_add-result
overflow_add-result c =
    rw (c.head_length.ensures, c.strip_stride.ensures)
    (omega (arith, fields_bound c.args.p c.args.m c.args.i (search rules) c.requires))
