-- `square::Step::apply` meets its contract. The loop's invariant: the lines passed are stepped, the others as they
-- were.
use Rattle.std.proofs.Common.{◌≡◌, List, ◌++◌, get_or, drop}
use Rattle.square.specs.declared.Line.{Line}
use Rattle.square.specs.Steps.{stepped, lifted}
use Rattle.square.proofs.Step.apply.Given as goal

abbrev pub invariant-loop-i : goal.invariant-loop-i
invariant-loop-i l =
    let s : List Line = lifted l.self.r l.self.p l.fn.s in
    l.line-items ++ drop l.self.rows s ≡ stepped (λ k. get_or l.self.c k 0) l.self.r s l.i
