-- `half_pairs::list_half_pairs` meets its contract. The invariant: the half pairs before z are written.
use mathlib.Core.Path.{ap, ◌∙◌}
use mathlib.Core.Bool.{Bool, cond}
use mathlib.Core.List.{[], ◌∷◌, ◌++◌}
use Prim.Native.Nat.{ℕ, zero-le}
use native.Mathlib.Omega.{arith}
use Rattle.lists.specs.Listed.{rising}
use Rattle.lists.proofs.Put.{wrote_none, wrote_then, wrote_same}
use Rattle.lists.proofs.Rising.{rising_length, rising_next}
use Rattle.document.proofs.Fields.{fields, is_accepted}
use Rattle.document.proofs.Bounds.{square_bound}
use Rattle.half_pairs.specs.HalfPairs.{is_half_pair, half_pairs}
use Rattle.half_pairs.proofs.list_half_pairs.Goals as goal

pub loop-z-init : goal.loop-z-init
unfolding rising
loop-z-init c = wrote_none _ _

pub put_if-next-requires : goal.put_if-next-requires
put_if-next-requires c =
    let l = c.loop-z in
    let few = square_bound c.args.p (is_accepted c.p.view_is c.p.invariant) in
    let h = rw (fields c.p.view_is) at c.loop-z-test.true in
    let short = rising_length (is_half_pair c.args.p c.args.nodes.now) l.z in (
      omega (arith, few, h, l.invariant.ends, short),
      omega (arith, few, h),
    )

pub loop-z-preserved : goal.loop-z-preserved
loop-z-preserved c =
    let l = c.loop-z in
    let P = is_half_pair c.args.p c.args.nodes.now in
    wrote_same
    (ap (λ (b : Bool). rising l.z P ++ cond b (l.z ∷ []) []) c.is_half_pair-wanted.ensures ∙ rising_next l.z P)
    (wrote_then zero-le l.invariant c.put_if-next.ensures)

pub returns : goal.returns
unfolding half_pairs
returns c =
    wrote_same
    (ap (λ (m : ℕ). rising m (is_half_pair c.args.p c.args.nodes.now)) (rw (← c.p.view_is) (omega arith)))
    c.loop-z.invariant
