-- `half_pairs::small_system` meets its contract. The front of the table of half pairs is their list; the invariant: the
-- lines before e are written.
use mathlib.Core.Path.{◌≡◌, ap, ap₂, ◌∙◌}
use mathlib.Core.List.{List}
use Prim.Native.Nat.{ℕ}
use native.Mathlib.Omega.{arith}
use borrow.Author.Rules.{rules}
use lib.ListN.{length, set}
use lib.Seq.{length-take-le}
use Rattle.square.specs.declared.Line.{Line}
use Rattle.square.specs.Steps.{filled}
use Rattle.square.proofs.Steps.{filled_none, filled_next}
use Rattle.half_pairs.specs.HalfPairs.{half_pairs, system_square}
use Rattle.half_pairs.proofs.System.{count_few, halves_front, halves_fit}
use Rattle.half_pairs.proofs.small_system.Invariants.{system_line_of, blank}
use Rattle.half_pairs.proofs.small_system.Goals as goal

pub loop-e-init : goal.loop-e-init
loop-e-init c = filled_none _ _

pub shared_ref_as_front-halves : goal.shared_ref_as_front-halves
shared_ref_as_front-halves c = count_few c.requires.1 (search rules) c.requires.0

pub system_line-c-requires-clause-halves_value : goal.system_line-c-requires-clause-halves_value
system_line-c-requires-clause-halves_value c =
    let size = length-take-le _ _ (halves_fit c.requires.1) in
    (halves_front c.requires.1, omega (arith, size))

pub loop-e-preserved : goal.loop-e-preserved
loop-e-preserved c =
    let l = c.loop-e in
    ap₂ (λ (x : List Line) (y : List ℕ). set x l.e (record { c = y })) l.invariant c.system_line-c.ensures
    ∙ filled_next (system_line_of c.args.p c.args.nodes.now) blank l.e

pub returns : goal.returns
unfolding system_square
returns c =
    let l = c.loop-e in
    let done : l.e ≡ length (half_pairs c.args.p c.args.nodes.now) = omega (arith, c.requires.1.count) in
    l.invariant ∙ ap (filled (system_line_of c.args.p c.args.nodes.now) blank) done
