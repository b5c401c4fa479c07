-- `square::Step::of` meets its contract: the pivot is the first entry that is not 0, and the multipliers are computed
-- by it.
use Rattle.std.proofs.Common.{arith, refl, sym, ◌∙◌}
use Rattle.square.proofs.Pivots.{pivoted}
use Rattle.square.proofs.Columns.{multiplier_of}
use Rattle.square.proofs.Ends.{reached_pivot}
use Rattle.square.proofs.Step.of.Goals as goal

pub multipliers-c-requires : goal.multipliers-c-requires
multipliers-c-requires c =
    reached_pivot _ (omega arith) (omega arith) c.column_of-entries.ensures
    (sym (c.in_ok-p.ensures _ _ c.column_of-entries.ensures))

pub invariant_of-result : goal.invariant_of-result
invariant_of-result c =
    let f = pivoted _ _ _ _ _ (sym (c.in_ok-p.ensures _ _ c.column_of-entries.ensures)) in
    record { inside = (omega arith, omega (arith, f.high), omega arith) }

pub returns : goal.returns
returns c =
    let e = sym (c.in_ok-p.ensures _ _ c.column_of-entries.ensures) in
    let f = pivoted _ _ _ _ _ e in
    record {
      line = refl;
      size = refl;
      pivot = e;
      given = λ i l.
          c.multipliers-c.ensures.at i (omega arith)
          ∙ multiplier_of _ _ _ (omega arith) c.column_of-entries.ensures f i l;
    }
