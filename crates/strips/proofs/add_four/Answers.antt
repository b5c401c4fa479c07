-- `strips::add_four` meets its contract.
use mathlib.Core.Path.{ap, ◌∙◌}
use Prim.Native.Nat.{ℕ}
use native.Mathlib.Omega.{arith}
use lib.ListN.{get_or}
use borrow.Author.Rules.{rules}
use Rattle.gf256.specs.Field.{◌⊕◌}
use Rattle.strips.specs.Planes.{sum_four, added_four}
use Rattle.lists.proofs.Written.{written_none, written_all, written_next, written_more}
use Rattle.strips.proofs.add_four.Goals as goal

pub loop-b-init : goal.loop-b-init
loop-b-init g c = λ h k. written_none _ _

pub loop-b-preserved : goal.loop-b-preserved
unfolding ◌⊕◌
loop-b-preserved g c = λ h k.
    let l = c.loop-b in
    let s = c.args in
    let f : ℕ → ℕ = λ b. sum_four (h (get_or s.dst.now b 0)) s.s0.now s.s1.now s.s2.now s.s3.now b in
    written_more f l.b s.dst.now l.dst (l.invariant h k) (omega arith) _
    (ap (λ (v : ℕ). sum_four v s.s0.now s.s1.now s.s2.now s.s3.now l.b)
    (k _ _ (search rules) c.f.ensures ∙ ap h (written_next f l.b s.dst.now l.dst (l.invariant h k) (omega arith))))

pub returns : goal.returns
unfolding added_four
returns g c = λ h k. written_all _ c.loop-b.b _ c.loop-b.dst (c.loop-b.invariant h k) (omega arith)
