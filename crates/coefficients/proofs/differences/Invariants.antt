-- `coefficients::differences` meets its contract. The invariant: the first i entries are the first i differences.
use Rattle.lists.proofs.Written.{Written}
use Rattle.document.specs.ByteField.{bytes, byte, number}
use Rattle.coefficients.specs.Weights.{points}
use Rattle.coefficients.proofs.differences.Given as goal

abbrev pub invariant-loop-i : goal.invariant-loop-i
invariant-loop-i l = Written (λ j. number (bytes.add (byte l.x) (points l.nodes j))) l.i l.initial.out l.out
