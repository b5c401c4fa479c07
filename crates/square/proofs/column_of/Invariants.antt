-- `square::column_of` meets its contract. The loop's invariant: the entries of the lines passed are gathered.
use Rattle.square.specs.Steps.{line_at}
use Rattle.square.specs.Columns.{Gathered}
use Rattle.square.proofs.column_of.Given as goal

abbrev pub invariant-loop-i : goal.invariant-loop-i
invariant-loop-i l = Gathered (line_at l.s) l.j l.rows l.i l.entries
