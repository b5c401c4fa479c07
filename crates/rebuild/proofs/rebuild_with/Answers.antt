-- `rebuild::rebuild_with` meets its contract: each return is the answer of the tests that led there, and a bundle that
-- passes has the strips of the plan.
use mathlib.Core.Path.{◌≡◌, sym, ap, ap₂, ◌∙◌}
use Prim.Native.Nat.{◌<◌}
use native.Mathlib.Omega.{arith}
use Rattle.document.specs.Rebuild.{rebuilt_of, first_strip}
use Rattle.document.specs.Accepted.{Profile}
use Rattle.document.proofs.Fields.{fields}
use Rattle.rebuild.proofs.Answers.{node_refused, column_refused, bundle_exit, bundle_done, strips_fit}
use Rattle.rebuild.proofs.rebuild_with.Goals.{Else-f-p, After-first_strip-first}
use Rattle.rebuild.proofs.rebuild_with.Goals as goal

-- past the test of the lost node
module _ (c : Else-f-p) where
  known : c.args.f.0 < c.args.p.n
  known = let below : c.args.f.0 < c.p.inside.n = omega (arith, c.if-f-p.false) in rw (fields c.p.view_is) at below

-- the first strip is where it is with the profile's edition
module _ (c : After-first_strip-first) where
  first_is : c.first_strip-first.result ≡ first_strip c.args.p
  first_is = c.first_strip-first.ensures c.args.p (ap (λ (p : Profile). p.edition) (sym c.p-2.view_is))

pub returns-then-f-p : goal.returns-then-f-p
returns-then-f-p c = node_refused _ _ _ _ _ (rw (fields c.p.view_is) at c.if-f-p.true)

pub returns-then-column-p : goal.returns-then-column-p
returns-then-column-p c = column_refused _ _ _ _ _ (known (goal.at.returns-then-column-p c).Else-f-p) (rw (fields c.p.view_is) at c.if-column-p.true)

pub rebuild_column-requires : goal.rebuild_column-requires
rebuild_column-requires c =
    record {
      column_len = (known (goal.at.rebuild_column-requires c).Else-f-p, rw (fields c.p.view_is) at c.if-column-p.false);
      strips_fit = rw
          (c.strip_stride-stride.ensures, first_is (goal.at.rebuild_column-requires c).After-first_strip-first)
          (strips_fit _ _ c.args.r _ (sym c.in_ok-check.ensures));
    }

pub returns-in_err-check : goal.returns-in_err-check
returns-in_err-check c =
    bundle_exit _ _ _ _ _ (known (goal.at.returns-in_err-check c).Else-f-p) (rw (fields c.p.view_is) at c.if-column-p.false) c.from_residual.result
    c.from_residual.ensures.1 c.in_err-check.ensures

pub returns : goal.returns
returns c =
    bundle_done _ _ _ _ _ (known (goal.at.returns c).Else-f-p) (rw (fields c.p.view_is) at c.if-column-p.false) (sym c.in_ok-check.ensures)
    (c.rebuild_column.ensures
    ∙ ap₂ (rebuilt_of _ _ _) (first_is (goal.at.returns c).After-first_strip-first) c.strip_stride-stride.ensures)
