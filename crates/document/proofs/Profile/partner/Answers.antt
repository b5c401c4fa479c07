-- `Profile::partner` meets its contract: the group of a node lies within the nodes, which are few.
use native.Mathlib.Omega.{arith}
use Rattle.document.proofs.Bounds.{group_within}
use Rattle.document.proofs.Profile.partner.Goals as goal

pub overflow_mul-result : goal.overflow_mul-result
overflow_mul-result c =
    let q = rw (← c.self.view_is) at c.requires in
    omega (arith, group_within _ c.self.invariant c.args.q.node.0 q.node, c.self.invariant)

pub overflow_add-result : goal.overflow_add-result
overflow_add-result c =
    let q = rw (← c.self.view_is) at c.requires in
    omega (arith, group_within _ c.self.invariant c.args.q.node.0 q.node, c.self.invariant, q)
