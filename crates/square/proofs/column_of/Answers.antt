-- `square::column_of` meets its contract. The loop's invariant: the entries of the lines passed are gathered.
use Rattle.std.proofs.Common.{◌≡◌, ℕ, ◌<◌, length, replicate, arith}
use Rattle.std.proofs.lemmas.List.{length-replicate, length-take-le, get_or-take}
use Rattle.square.specs.Steps.{no_line}
use Rattle.square.proofs.Columns.{gathered_none, gathered_more}
use Rattle.square.proofs.column_of.Goals as goal

pub loop-i-init : goal.loop-i-init
loop-i-init c =
    let size : length {A = ℕ} (replicate 80 0) ≡ 80 = length-replicate {A = ℕ} 80 0 in
    gathered_none (omega (arith, c.requires))

pub loop-i-preserved : goal.loop-i-preserved
loop-i-preserved c =
    let size = length-take-le c.args.rows c.args.s.now (omega (arith, c.requires)) in
    let h : c.loop-i.i < c.args.rows = omega (arith, size) in
    gathered_more c.loop-i.invariant h (rw (get_or-take c.args.rows c.args.s.now c.loop-i.i no_line h) at c.at.ensures)

pub returns : goal.returns
returns c =
    let size = length-take-le c.args.rows c.args.s.now (omega (arith, c.requires)) in
    let e : c.loop-i.i ≡ c.args.rows = omega (arith, size) in
    rw e at c.loop-i.invariant
