use Rattle.std.proofs.Common.{ℕ, ◌+◌, ◌-◌, drop}
use native.Mathlib.Omega.{arith}
use mathlib.Core.Path.{◌∙◌, sym, ap₂}
use Rattle.ksets.proofs.Pascal.{sets_bound, rule}
use Rattle.ksets.proofs.Cases.{rank_end, rank_nowhere, rank_with, rank_without, rank_bound}
use Rattle.ksets.proofs.+rank_from.Goals as goal

pub returns-then-k-eq0 : goal.returns-then-k-eq0
returns-then-k-eq0 t c = sym (rank_end c.args.set.now c.args.at c.args.b c.args.n (omega arith))

pub returns-then-n-eq0 : goal.returns-then-n-eq0
returns-then-n-eq0 t c = sym (rank_nowhere _ _ _ c.if-n-eq0.true)

pub returns-then-set-at : goal.returns-then-set-at
returns-then-set-at t c =
    let a = c.args in
    c.rank_from.ensures ∙ rank_with a.set.now a.at a.b (omega arith) a.n (omega arith) c.if-set-at.true

pub overflow_sub-total : goal.overflow_sub-total
overflow_sub-total t c =
    let a = c.args in
    omega (arith, c.share-with.ensures, rule a.n a.k (omega arith) (omega arith))

pub rank_from-past-requires : goal.rank_from-past-requires
rank_from-past-requires t c =
    let a = c.args in (
      omega arith,
      record {
        few = omega arith;
        rest = omega arith;
        all = omega (arith, c.share-with.ensures, rule a.n a.k (omega arith) (omega arith));
      },
    )

pub overflow_add-result : goal.overflow_add-result
overflow_add-result t c =
    let a = c.args in
    omega (
      arith,
      c.rank_from-past.ensures,
      c.share-with.ensures,
      rank_bound (a.b + 1) (a.n - 1) (drop a.at a.set.now) (omega arith),
      sets_bound (a.n - 1) (a.k - 1) (omega arith),
    )

pub returns : goal.returns
returns t c =
    let a = c.args in
    ap₂ (λ (u v : ℕ). u + v) c.share-with.ensures c.rank_from-past.ensures
    ∙ rank_without a.set.now a.at a.b (omega arith) a.n a.k (omega arith) (omega arith) c.if-set-at.false
