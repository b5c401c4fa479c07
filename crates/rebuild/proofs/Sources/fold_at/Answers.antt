-- `rebuild::Sources::fold_at` meets its contract: the strip of row c stands at place m, and the partner's at the place after.
use mathlib.Core.Path.{◌≡◌, sym, ap, ap₂, ◌∙◌}
use mathlib.Core.Bool.{true, false}
use mathlib.Core.List.{List}
use Prim.Native.Nat.{ℕ, ◌+◌, ◌*◌, ◌≤◌, ◌<◌}
use native.Mathlib.Omega.{arith}
use lib.ListN.{length}
use Rattle.strips.specs.Strips.{added_scaled, strip_at}
use Rattle.strips.proofs.Strip.{strip_length}
use Rattle.document.specs.declared.Node.{Node}
use Rattle.document.specs.Profile.{Profile, Accepted}
use Rattle.document.proofs.Fields.{fields, is_accepted}
use Rattle.document.specs.Plan.{is_off_diagonal, planned}
use Rattle.document.proofs.Price.{planned_price}
use Rattle.plan.specs.Steps.{in_step, places_at}
use Rattle.rebuild.proofs.Given.{one_place, two_places, own_within, own_part, partner_within, partner_part}
use Rattle.rebuild.proofs.Given.{single_folded, pair_folded}
use Rattle.rebuild.proofs.Sources.fold_at.Goals.{Else-in_step, Start, Then-in_step}
use Rattle.rebuild.proofs.Sources.fold_at.Goals as goal

few_places : (p : Profile) (f : Node) → Accepted p → f.0 < p.n → length (planned p f) < 64
few_places p f acc lost = omega (arith, planned_price p acc f lost, acc.shape)

module _ (s : Start) where
  here : s.args.self.now.first + s.args.m * s.args.self.now.stride + s.args.self.now.p.s ≤ length s.args.self.now.src.now
  here = own_within _ _ _ _ _ s.args.self.now.fit _ _ s.requires.at

-- where the test says that node j is off the diagonal
module _ (t : Then-in_step) where
  off : is_off_diagonal t.args.self.now.p.a t.args.self.now.f t.args.j ≡ true
  unfolding in_step
  off = sym t.in_step.ensures ∙ t.if-in_step.true

  two : t.args.m + 2 ≡ t.args.m + length (places_at t.args.self.now.p.a t.args.self.now.f t.args.j)
  two = two_places _ t.args.self.now.f t.args.j t.args.m off

  next : t.args.self.now.first + (t.args.m + 1) * t.args.self.now.stride + t.args.self.now.p.s
      ≤ length t.args.self.now.src.now
  next = partner_within _ _ _ _ _ t.args.self.now.fit _ _ t.requires.at off

pub overflow_mul-own : goal.overflow_mul-own
overflow_mul-own c = omega (arith, here (goal.at.overflow_mul-own c).Start)

pub overflow_add-own : goal.overflow_add-own
overflow_add-own c = omega (arith, here (goal.at.overflow_add-own c).Start)

pub overflow_add-own-2 : goal.overflow_add-own-2
overflow_add-own-2 c = omega (arith, here (goal.at.overflow_add-own-2 c).Start)

pub slice_bounds-copy_from_slice-end : goal.slice_bounds-copy_from_slice-end
slice_bounds-copy_from_slice-end c =
    rw (fields c.p.view_is) (here (goal.at.slice_bounds-copy_from_slice-end c).Start)

pub overflow_add-partner : goal.overflow_add-partner
overflow_add-partner c = omega (arith, few_places _ _ (is_accepted c.p.view_is c.p.invariant) c.args.self.now.lost, c.requires.at.inside, two c)

pub overflow_add-partner-then-in_step : goal.overflow_add-partner-then-in_step
overflow_add-partner-then-in_step c = omega (arith, next c)

pub overflow_add-partner-then-in_step-2 : goal.overflow_add-partner-then-in_step-2
overflow_add-partner-then-in_step-2 c = omega (arith, next (goal.at.overflow_add-partner-then-in_step-2 c).Then-in_step)

pub slice_bounds-add_times-end : goal.slice_bounds-add_times-end
slice_bounds-add_times-end c =
    rw (fields c.p-then-in_step-2.view_is) (next (goal.at.slice_bounds-add_times-end c).Then-in_step)

pub overflow_add-result : goal.overflow_add-result
overflow_add-result c =
    omega (arith, few_places _ _ (is_accepted c.p.view_is c.p.invariant) c.args.self.now.lost, c.requires.at.inside, two (goal.at.overflow_add-result c).Then-in_step)

pub returns-then-in_step : goal.returns-then-in_step
returns-then-in_step c =
    let g = c.args.self.now in
    let j = c.args.j in
    let m = c.args.m in
    let at = c.requires.at in
    let e = off (goal.at.returns-then-in_step c).Then-in_step in (
      two (goal.at.returns-then-in_step c).Then-in_step,
      (rw (fields c.p-then-in_step-2.view_is) at c.add_times.ensures)
          ∙ ap₂ (λ (v : ℕ) (y : List ℕ). added_scaled v 0 y c.copy_from_slice.new.self) (rw (fields c.p-then-in_step.view_is) at c.factor-t.ensures)
          (partner_part g.p g.f g.src.now g.first g.stride g.fit j m at e)
          ∙ ap (added_scaled _ 0 _) ((rw (fields c.p.view_is) at c.copy_from_slice.ensures.after) ∙ own_part g.p g.f g.src.now g.first g.stride g.fit j m at)
          ∙ pair_folded g.p (is_accepted c.p.view_is c.p.invariant) g.f g.lost g.src.now g.bytes g.first g.stride j m at e,
    )

-- where it says that it is not
on : (t : Else-in_step) → is_off_diagonal t.args.self.now.p.a t.args.self.now.f t.args.j ≡ false
unfolding in_step
on t = sym t.in_step.ensures ∙ t.if-in_step.false

single_place : (t : Else-in_step)
    → t.args.m + 1 ≡ t.args.m + length (places_at t.args.self.now.p.a t.args.self.now.f t.args.j)
single_place t = one_place _ t.args.self.now.f t.args.j t.args.m (on t)

pub overflow_add-result-2 : goal.overflow_add-result-2
overflow_add-result-2 c =
    omega (arith, few_places _ _ (is_accepted c.p.view_is c.p.invariant) c.args.self.now.lost, c.requires.at.inside, single_place c)

pub returns : goal.returns
returns c =
    let g = c.args.self.now in
    let j = c.args.j in
    let m = c.args.m in
    let at = c.requires.at in (
      single_place c,
      (rw (fields c.p.view_is) at c.copy_from_slice.ensures.after) ∙ own_part g.p g.f g.src.now g.first g.stride g.fit j m at
          ∙ single_folded g.p (is_accepted c.p.view_is c.p.invariant) g.f g.lost g.src.now g.bytes g.first g.stride j m at
          (on c),
    )
