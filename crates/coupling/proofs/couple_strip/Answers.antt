-- `coupling::couple_strip` meets its contract: the partner of an upper strip lies before it in memory.
use mathlib.Core.Path.{◌≡◌, sym, ap, ap₂, ◌∙◌}
use Prim.Native.Nat.{ℕ, ◌+◌, ◌*◌, ◌/◌, ◌%◌, ◌≤◌, ◌<◌}
use native.Mathlib.Omega.{arith}
use lib.ListN.{length}
use Rattle.document.specs.declared.Profile.{Profile}
use Rattle.document.specs.declared.Place.{Place}
use Rattle.document.specs.Places.{partner_of}
use Rattle.document.specs.ByteField.{number}
use Rattle.document.specs.Encoding as E
use Rattle.document.specs.Encoding.{constant_of}
use Rattle.document.proofs.Fields.{fields, is_accepted}
use Rattle.document.proofs.Bounds.{A>0, room}
use Rattle.coupling.specs.Pairs.{partner_number}
use Rattle.coupling.proofs.Partners.{partner_before, strip_start_lem, partner_start, no_upper}
use Rattle.coupling.proofs.Coupled.{upper_pair}
use Rattle.coupling.proofs.couple_strip.Goals.{After-place-q, After-start-lower, Then-i-l}
use Rattle.coupling.proofs.couple_strip.Goals as goal

-- strip z is the upper one of its pair
upper : (c : Then-i-l)
    → c.args.z % c.args.p.a
    < c.args.z / c.args.p.a
    % c.args.p.a
upper c = rw (c.place-q.ensures, fields c.p.view_is) at c.if-i-l.true

-- where the two strips start
module _ (c : After-start-lower) where
  abbrev p : Profile
  p = c.args.p

  abbrev z : ℕ
  z = c.args.z

  upper_start : c.start-upper.result ≡ z * p.s
  upper_start = c.start-upper.ensures ∙ ap (E.start p) c.place-q.ensures ∙ strip_start_lem p z

  lower_start : c.start-lower.result ≡ partner_number p.a z * p.s
  lower_start =
      c.start-lower.ensures
      ∙ ap (E.start p) (c.partner-r.ensures ∙ ap (partner_of p.a) c.place-q.ensures)
      ∙ partner_start p z

  apart : partner_number p.a z * p.s + p.s ≤ z * p.s
  apart =
      room (partner_number p.a z) z p.s
      (partner_before p.a (A>0 p (is_accepted c.p.view_is c.p.invariant)) z
      (rw (c.place-q.ensures, fields c.p.view_is) at c.if-i-l.true))

  inside : z * p.s + p.s ≤ length c.args.x.now
  inside = rw c.requires.0 (room z (p.n * p.a) p.s c.requires.1)

pub couple_pair-requires : goal.couple_pair-requires
couple_pair-requires c =
    let w = (goal.at.couple_pair-requires c).After-start-lower in
    rw (fields c.p-then-i-l.view_is) (
      (is_accepted c.p.view_is c.p.invariant).short,
      omega (arith, upper_start w, lower_start w, apart w),
      omega (arith, upper_start w, inside w),
    )

pub returns-then-i-l : goal.returns-then-i-l
returns-then-i-l c =
    let w = (goal.at.returns-then-i-l c).After-start-lower in
    let placed = c.place-q.ensures in
    upper_pair (p w) (z w) (upper (goal.at.returns-then-i-l c).Then-i-l) c.args.x.now
    (rw (fields c.p-then-i-l.view_is) at c.couple_pair.ensures)
    (c.constant-t.ensures
    ∙ ap₂ (λ (r o : Place). number (constant_of (p w) r.row.0 o.row.0))
    (c.partner-r.ensures ∙ ap (partner_of (p w).a) placed) placed)
    (upper_start w) (lower_start w)

pub returns-else-i-l : goal.returns-else-i-l
returns-else-i-l c =
    let h = rw (c.place-q.ensures, fields c.p.view_is) at c.if-i-l.false in
    sym (no_upper c.args.p c.args.z h _ c.args.x.now)
