-- `Profile::start` meets its contract: the strip lies within the array, which is small.
use mathlib.Core.Path.{refl}
use native.Mathlib.Omega.{arith}
use Rattle.document.specs.Encoding as E
use Rattle.document.proofs.Bounds.{strips_bound, array_bound, strip_number, strip_within}
use Rattle.document.proofs.Profile.start.Goals as goal

pub overflow_mul-result : goal.overflow_mul-result
overflow_mul-result c =
    let acc = c.self.invariant in
    omega (arith, strips_bound _ acc, strip_number _ acc c.args.q (rw (← c.self.view_is) at c.requires))

pub overflow_add-result : goal.overflow_add-result
overflow_add-result c =
    let acc = c.self.invariant in
    omega (arith, strips_bound _ acc, strip_number _ acc c.args.q (rw (← c.self.view_is) at c.requires))

pub overflow_mul-result-2 : goal.overflow_mul-result-2
overflow_mul-result-2 c =
    let acc = c.self.invariant in
    omega (arith, array_bound _ acc, strip_within _ acc c.args.q (rw (← c.self.view_is) at c.requires))

pub returns : goal.returns
unfolding E.start
returns c = rw (← c.self.view_is) refl
