-- `plan::walk_start` meets its contract.
use mathlib.Core.Path.{sym}
use borrow.Author.Tests.{eq-eqb, ne_eqb}
use Rattle.document.specs.Plan.{walk_start}
use Rattle.document.proofs.Fields.{fields}
use Rattle.plan.proofs.walk_start.Goals as goal

pub returns-then-p-eq1 : goal.returns-then-p-eq1
unfolding walk_start
returns-then-p-eq1 c = sym (rw (eq-eqb c.args.p.edition 1 (rw (fields c.p.view_is) at c.if-p-eq1.true)))

pub returns : goal.returns
unfolding walk_start
returns c = sym (rw (ne_eqb c.args.p.edition 1 (rw (fields c.p.view_is) at c.if-p-eq1.false)))
