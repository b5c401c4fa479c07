-- `lists::each_part` meets its contract. The invariant: what the calls leave stands in the parts before i.
use mathlib.Core.Path.{◌≡◌, sym, ap, subst, ◌∙◌}
use mathlib.Core.List.{List}
use Prim.Native.Nat.{ℕ, ◌+◌, ◌-◌, ◌*◌}
use native.Mathlib.Omega.{arith}
use borrow.Author.Rules.{rules}
use lib.ListN.{length, take, drop}
use lib.Seq.{take_all}
use Rattle.lists.specs.Parts.{parts}
use Rattle.lists.proofs.Parts.{none_parts, next_part}
use Rattle.lists.proofs.cut.each_part.Goals as goal

pub loop-i-init : goal.loop-i-init
loop-i-init g c = record { whole = c.requires.whole; written = λ f leaves. none_parts c.args.size f c.args.out.now }

pub loop-i-preserved : goal.loop-i-preserved
loop-i-preserved g c =
    let l = c.loop-i in
    let w = c.args.size in
    let at : ℕ = l.i * w in
    let lent : length (take (at + w - at) (drop at l.out)) ≡ w = search rules in
    record {
      whole = search rules;
      written = λ f leaves.
          let e = leaves l.i _ _ c.loop-i-test.true lent c.put.ensures in
          next_part w f l.i (ap length (sym e) ∙ c.put.auto.arg3 ∙ lent) l.out _ _ (l.invariant.written f leaves) e;
    }

pub returns : goal.returns
returns g c f leaves =
    let l = c.loop-i in
    let w = c.args.size in
    let e : l.i ≡ c.args.count = omega arith in
    sym (take_all (c.args.count * w) l.out (omega arith))
    ∙ subst (λ (i : ℕ). take (i * w) l.out ≡ parts w f i) e (l.invariant.written f leaves)
