-- `document::accepts_shape` meets its contract: each return has found a condition that fails, the last one all that
-- hold.
use native.Mathlib.Omega.{arith}
use mathlib.Core.Path.{sym}
use Rattle.document.proofs.Decides.{decides_false}
use Rattle.document.proofs.Accepts.{decides_shape, shape_left}
use Rattle.document.proofs.accepts_shape.Goals as goal

pub returns-then-k-lt1 : goal.returns-then-k-lt1
returns-then-k-lt1 c = sym (decides_false _ (decides_shape _ _ _) (λ s. omega (arith, s)))

pub returns-then-n-k : goal.returns-then-n-k
returns-then-n-k c = sym (decides_false _ (decides_shape _ _ _) (λ s. omega (arith, s)))

pub returns-then-a-lt-MIN_ROWS : goal.returns-then-a-lt-MIN_ROWS
returns-then-a-lt-MIN_ROWS c = sym (decides_false _ (decides_shape _ _ _) (λ s. omega (arith, s)))

pub returns-then-a-gt-MAX_ROWS : goal.returns-then-a-gt-MAX_ROWS
returns-then-a-gt-MAX_ROWS c = sym (decides_false _ (decides_shape _ _ _) (λ s. omega (arith, s)))

pub returns-then-n-k-2 : goal.returns-then-n-k-2
returns-then-n-k-2 c = sym (decides_false _ (decides_shape _ _ _) (λ s. omega (arith, s)))

pub returns-then-n-a-ne0 : goal.returns-then-n-a-ne0
returns-then-n-a-ne0 c = sym (decides_false _ (decides_shape _ _ _) (λ s. c.if-n-a-ne0.true s.whole_groups))

pub returns : goal.returns
returns c =
    sym (shape_left _ _ _ (λ few. record {
      some_data = omega arith;
      some_parity = omega arith;
      two_rows = omega arith;
      few_rows = omega arith;
      enough_parity = omega arith;
      whole_groups = c.if-n-a-ne0.false;
      few_nodes = few;
    }))
