-- `square::unit_square` meets its contract. The loop's invariant: the lines passed have their 1, the others are zeros;
-- 80 of them are all.
use mathlib.Core.Path.{◌≡◌, ap, ap₂, ◌∙◌}
use mathlib.Core.List.{List}
use Prim.Native.Nat.{ℕ, ◌<◌}
use native.Mathlib.Omega.{arith}
use lib.ListN.{set, replicate, length-replicate, get_or-replicate}
use Rattle.square.specs.declared.Line.{Line}
use Rattle.square.specs.Steps.{no_line, line_at, filled, unit_line, unit_square}
use Rattle.square.proofs.Steps.{filled_none, filled_next, filled_rest, filled_all, unit_line_set}
use Rattle.square.proofs.unit_square.Invariants.{unit_at, zeros}
use Rattle.square.proofs.unit_square.Goals as goal

pub loop-i-init : goal.loop-i-init
loop-i-init c = filled_none _ _

-- the line to be written next
next : (z : List Line) (i : ℕ) → i < 80 → z ≡ filled unit_at (replicate 80 zeros) i
    → set (line_at z i) i 1 ≡ unit_line 80 i
next z i h e =
    ap (λ (x : List ℕ). set x i 1)
    (ap (λ (x : List Line). line_at x i) e
    ∙ ap (λ (x : Line). x.c)
    (filled_rest unit_at (replicate 80 zeros) i i no_line (omega arith) ∙ get_or-replicate 80 i zeros no_line h))
    ∙ unit_line_set 80 i h

pub loop-i-preserved : goal.loop-i-preserved
loop-i-preserved c =
    let l = c.loop-i in
    ap₂ (λ (x : List Line) (k : List ℕ). set x l.i (record { c = k })) l.invariant
    (next l.line-items l.i (omega arith) l.invariant)
    ∙ filled_next unit_at _ l.i

pub returns : goal.returns
unfolding unit_square
returns c =
    let l = c.loop-i in
    let e : l.i ≡ 80 = omega arith in
    l.invariant ∙ ap (filled unit_at (replicate 80 zeros)) e
    ∙ filled_all unit_at (replicate 80 zeros) 80 no_line (length-replicate 80 zeros)
