-- `plan::list_step` meets its contract. The invariant: those of the first i nodes of the walk that the step goes over
-- are written, and end where the list may end.
use mathlib.Core.Path.{◌≡◌, refl, sym, ap, ap₂, subst, ◌∙◌}
use mathlib.Core.Bool.{Bool, cond}
use mathlib.Core.List.{List, [], ◌∷◌, ◌++◌}
use Prim.Native.Nat.{ℕ, ◌+◌, ◌%◌, ◌<◌, zero-le}
use native.Mathlib.Nat.{mod-lt}
use native.Mathlib.Omega.{arith}
use Rattle.lists.specs.Listed.{rising, along}
use Rattle.lists.proofs.Put.{wrote_none, wrote_then, wrote_same}
use Rattle.lists.proofs.Around.{along_next}
use Rattle.plan.specs.Steps.{in_step}
use Rattle.plan.proofs.Walked.{at_most_one, nodes_run_out, list_full}
use Rattle.plan.proofs.list_step.Goals.{After-in_step-wanted}
use Rattle.document.specs.Profile.{Accepted}
use Rattle.document.proofs.Fields.{fields, is_accepted}
use Rattle.plan.proofs.list_step.Goals as goal

pub loop-i-init : goal.loop-i-init
unfolding along rising
loop-i-init c = (c.requires.1, wrote_none _ _)

-- where the step has been tested
module _ (c : After-in_step-wanted) where
  abbrev node_at_lem : ℕ → ℕ
  node_at_lem e = (c.args.start + e) % c.args.p.n

  abbrev passes : ℕ → Bool
  passes = in_step c.args.step c.args.p.a c.args.f

  accepted : Accepted c.args.p
  accepted = is_accepted c.p.view_is c.p.invariant

  node : c.node_at-j.result ≡ node_at_lem c.loop-i.i
  node = c.node_at-j.ensures

  below : c.node_at-j.result < c.args.p.n
  below =
      subst (λ (j : ℕ). j < c.args.p.n) (sym node)
      (mod-lt (c.args.start + c.loop-i.i) (omega (arith, accepted.shape.some_parity)))

  -- what is written of this node
  entry : cond c.in_step-wanted.result (c.node_at-j.result ∷ []) []
      ≡ cond (passes (node_at_lem c.loop-i.i)) (node_at_lem c.loop-i.i ∷ []) []
  entry =
      ap₂ (λ (b : Bool) (j : ℕ). cond b (j ∷ []) []) (c.in_step-wanted.ensures ∙ ap passes node) node

pub put_if-next-requires : goal.put_if-next-requires
put_if-next-requires c = (
  omega (
    arith,
    c.if-next-end.false,
    c.requires.2,
    c.loop-i.invariant.0,
    c.loop-i.auto.out,
  ),
  omega (
    arith,
    below (goal.at.put_if-next-requires c).After-in_step-wanted,
    (accepted (goal.at.put_if-next-requires c).After-in_step-wanted).shape.few_nodes,
  ),
)

pub loop-i-preserved : goal.loop-i-preserved
loop-i-preserved c =
    let l = c.loop-i in
    let at = (goal.at.loop-i-preserved c).After-in_step-wanted in (
      omega (
        arith,
        c.if-next-end.false,
        l.invariant.0,
        c.put_if-next.ensures.ends,
        at_most_one c.node_at-j.result c.in_step-wanted.result,
      ),
      wrote_same
          (ap (λ (last : List ℕ). along l.i (node_at_lem at) (passes at) ++ last) (entry at)
          ∙ along_next (node_at_lem at) (passes at) l.i)
          (wrote_then (omega (arith, c.requires.1, c.requires.2)) l.invariant.1 c.put_if-next.ensures),
    )

-- the list is full
pub returns-then-next-end : goal.returns-then-next-end
returns-then-next-end c =
    let l = c.loop-i in
    wrote_same
    (list_full c.args.p.n (λ e. (c.args.start + e) % c.args.p.n) (in_step c.args.step c.args.p.a c.args.f)
    (rw (fields c.p.view_is) at l.auto.i-end) c.if-next-end.true l.invariant.1)
    l.invariant.1

-- the nodes ran out
pub returns : goal.returns
returns c =
    let l = c.loop-i in
    let all : l.i ≡ c.p.inside.n = omega (arith, l.auto.i-end) in
    wrote_same
    (nodes_run_out c.args.p.n (λ e. (c.args.start + e) % c.args.p.n) (in_step c.args.step c.args.p.a c.args.f)
    (rw (fields c.p.view_is) at all) l.invariant.0 l.invariant.1)
    l.invariant.1
