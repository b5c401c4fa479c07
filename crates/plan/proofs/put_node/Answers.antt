-- `plan::put_node` meets its contract: the places read for the node are its row c, and the partner where the test says
-- so.
use mathlib.Core.Path.{◌≡◌, sym, ap, ◌∙◌}
use mathlib.Core.List.{List, [], ◌∷◌}
use Prim.Native.Nat.{ℕ, ◌+◌, ◌≤◌, ◌<◌}
use native.Mathlib.Nat.{mod-lt}
use native.Mathlib.Omega.{arith}
use lib.ListN.{length}
use Rattle.lists.proofs.Put.{wrote_then, wrote_same}
use Rattle.document.specs.declared.Place.{Place}
use Rattle.document.specs.Places.{Within, partner_of}
use Rattle.document.specs.Plan.{row_at, plan_bytes}
use Rattle.document.proofs.Bounds.{A>0, partner_within}
use Rattle.plan.specs.Steps.{in_step, places_at}
use Rattle.plan.proofs.Places.{single, pair, one_fits}
use Rattle.plan.proofs.put_node.Goals.{Then-in_step}
use Rattle.document.specs.declared.Node.{Node}
use Rattle.document.specs.Profile.{Profile, Accepted}
use Rattle.document.proofs.Fields.{fields, is_accepted}
use Rattle.plan.proofs.put_node.Goals as goal

-- row c of the node is a place of the profile
within : (p : Profile) → Accepted p → (f : Node) (j : ℕ) → j < p.n → Within p (row_at p.a f j)
within p acc f j h = record { node = h; row = mod-lt f.0 (A>0 p acc) }

pub put_place-next-requires : goal.put_place-next-requires
put_place-next-requires c =
    let acc = is_accepted c.p.view_is c.p.invariant in
    let w = within _ acc c.args.f c.args.j c.requires.0 in
    rw (fields c.p.view_is) (
      omega (arith, c.requires.1, one_fits c.args.p.a c.args.f c.args.j),
      omega (arith, w.node, acc.shape.few_nodes),
      omega (arith, w.row, acc.shape.few_rows),
    )

-- where the test says that the node is off the diagonal
module _ (c : Then-in_step) where
  abbrev q : Place
  q = row_at c.args.p.a c.args.f c.args.j

  two : places_at c.args.p.a c.args.f c.args.j ≡ q ∷ partner_of c.args.p.a q ∷ []
  unfolding in_step
  two = pair _ _ _ (sym c.in_step.ensures ∙ c.if-in_step.true)

  fits : c.args.at + 4 ≤ length c.args.out.now
  unfolding plan_bytes
  fits = omega (arith, ap (λ (l : List Place). length (plan_bytes l)) two, c.requires.1)

pub put_place-requires : goal.put_place-requires
unfolding plan_bytes
put_place-requires c =
    let put = c.put_place-next in
    let acc = is_accepted c.p.view_is c.p.invariant in
    let at = (goal.at.put_place-requires c).Then-in_step in
    let w = partner_within c.args.p acc (q at) (within _ acc c.args.f c.args.j c.requires.0) in
    let partner : c.partner.result ≡ partner_of c.args.p.a (q at) = rw (fields c.p.view_is) at c.partner.ensures in (
      omega (arith, put.ensures.ends, put.auto.out, fits at),
      rw partner (omega (arith, w.node, acc.shape.few_nodes)),
      rw partner (omega (arith, w.row, acc.shape.few_rows)),
    )

pub returns-then-in_step : goal.returns-then-in_step
unfolding plan_bytes
returns-then-in_step c =
    let at = (goal.at.returns-then-in_step c).Then-in_step in
    let partner : c.partner.result ≡ partner_of c.args.p.a (q at) = rw (fields c.p.view_is) at c.partner.ensures in
    wrote_same
    (ap (λ (o : Place). plan_bytes (q at ∷ o ∷ [])) partner ∙ sym (ap plan_bytes (two at)))
    (wrote_then (omega (arith, fits at)) (rw (fields c.p.view_is) at c.put_place-next.ensures) c.put_place.ensures)

pub returns : goal.returns
unfolding in_step
returns c =
    wrote_same (sym (ap plan_bytes (single _ _ _ (sym c.in_step.ensures ∙ c.if-in_step.false))))
    (rw (fields c.p.view_is) at c.put_place-next.ensures)
