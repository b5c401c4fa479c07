-- `half_pairs::system_line` meets its contract. The invariant: the first f entries are written.
use mathlib.Core.Path.{◌≡◌, ap, ap₂, ◌∙◌}
use mathlib.Core.Bool.{false}
use mathlib.Core.List.{List}
use Prim.Native.Nat.{ℕ, ◌*◌, ◌≤◌, ◌<◌}
use native.Mathlib.Omega.{arith}
use borrow.Author.Rules.{rules}
use lib.ListN.{length, get_or, set, replicate}
use Rattle.gf256.specs.Field.{◌⊕◌}
use Rattle.square.specs.Steps.{filled}
use Rattle.square.proofs.Steps.{filled_none, filled_next}
use Rattle.document.specs.declared.Place.{Place}
use Rattle.document.specs.Accepted.{Profile, Accepted}
use Rattle.document.specs.Places.{Within}
use Rattle.document.specs.ByteField.{number}
use Rattle.half_pairs.specs.HalfPairs.{is_named, partner_at, half_pairs, half_pair_at, coefficient_in}
use Rattle.half_pairs.proofs.Named.{joined_partner_within}
use Rattle.half_pairs.proofs.Symbols.{half_each}
use Rattle.half_pairs.proofs.System.{coefficient_entry, line_done, few_halves}
use Rattle.half_pairs.proofs.system_line.Goals.{After-joined_partner-r, Start}
use Rattle.half_pairs.proofs.system_line.Goals as goal

module _ (s : Start) where
  abbrev p : Profile
  p = s.args.p

  abbrev nodes : List ℕ
  nodes = s.args.nodes.now

  accepted : Accepted p
  accepted = search rules

  few : length s.args.halves.now ≤ 80
  few = rw s.requires.halves_value.0 (few_halves p nodes accepted s.requires.weights.0)

  -- an entry of the list of strips
  strip : (e : ℕ) → get_or s.args.halves.now e 0 ≡ half_pair_at p nodes e
  strip e = ap (λ (l : List ℕ). get_or l e 0) s.requires.halves_value.0

  module _ (e : ℕ) (h : e < length s.args.halves.now) where
    below : e < length (half_pairs p nodes)
    below = rw (← s.requires.halves_value.0) h

    inside : half_pair_at p nodes e < p.k * p.a
    inside = (half_each p nodes accepted s.requires.weights.0 e below).1

    other : is_named p.k nodes (partner_at p nodes (half_pair_at p nodes e)).node.0 ≡ false
    other = (half_each p nodes accepted s.requires.weights.0 e below).0

    within : Within p (partner_at p nodes (half_pair_at p nodes e))
    within = joined_partner_within p accepted nodes s.requires.weights.0 _ inside

pub joined_partner-r-requires : goal.joined_partner-r-requires
joined_partner-r-requires c =
    let s = (goal.at.joined_partner-r-requires c).Start in
    (c.requires.weights.0, rw (strip s c.args.e) (inside s c.args.e c.requires.halves_value.1))

pub loop-f-init : goal.loop-f-init
loop-f-init c = filled_none _ _

-- past the partner of strip e
place : (c : After-joined_partner-r) → c.joined_partner-r.result
    ≡ partner_at c.args.p c.args.nodes.now (half_pair_at c.args.p c.args.nodes.now c.args.e)
place c =
    c.joined_partner-r.ensures
    ∙ ap (λ (l : List ℕ). partner_at c.args.p c.args.nodes.now (get_or l c.args.e 0)) c.requires.halves_value.0

pub partner_coefficient-requires-clause-strip : goal.partner_coefficient-requires-clause-strip
partner_coefficient-requires-clause-strip c =
    let s = (goal.at.partner_coefficient-requires-clause-strip c).Start in
    (c.requires.weights.0, rw (strip s c.loop-f.f) (inside s c.loop-f.f c.loop-f-test.true))

pub partner_coefficient-requires-clause-within : goal.partner_coefficient-requires-clause-within
partner_coefficient-requires-clause-within c =
    let s = (goal.at.partner_coefficient-requires-clause-within c).Start in
    let h = c.requires.halves_value.1 in
    rw (place (goal.at.partner_coefficient-requires-clause-within c).After-joined_partner-r)
    (within s c.args.e h, other s c.args.e h)

pub partner_coefficient-requires-clause-table_value : goal.partner_coefficient-requires-clause-table_value
partner_coefficient-requires-clause-table_value c =
    let s = (goal.at.partner_coefficient-requires-clause-table_value c).Start in
    (c.requires.weights.1, rw (strip s c.loop-f.f) (other s c.loop-f.f c.loop-f-test.true))

pub bounds-c-f : goal.bounds-c-f
bounds-c-f c = omega (arith, few (goal.at.bounds-c-f c).Start, c.loop-f-test.true)

pub loop-f-preserved : goal.loop-f-preserved
loop-f-preserved c =
    let l = c.loop-f in
    let s = (goal.at.loop-f-preserved c).Start in
    let at = place (goal.at.loop-f-preserved c).After-joined_partner-r in
    ap₂ (λ (x : List ℕ) (v : ℕ). set x l.f v) l.invariant
    (c.partner_coefficient.ensures
    ∙ ap₂ (λ (q : Place) (y : ℕ). number (coefficient_in (p s) (nodes s) q y)) at (strip s l.f))
    ∙ filled_next (coefficient_entry (p s) (nodes s) c.args.e) (replicate 80 0) l.f

pub bounds-c-e : goal.bounds-c-e
bounds-c-e c = omega (arith, few (goal.at.bounds-c-e c).Start, c.requires.halves_value.1)

pub bounds-c-e-2 : goal.bounds-c-e-2
bounds-c-e-2 c = omega (arith, few (goal.at.bounds-c-e-2 c).Start, c.requires.halves_value.1)

pub returns : goal.returns
unfolding ◌⊕◌
returns c =
    let l = c.loop-f in
    let s = (goal.at.returns c).Start in
    let done : l.f ≡ length (half_pairs (p s) (nodes s)) = omega (arith, ap length c.requires.halves_value.0) in
    line_done (p s) (nodes s) c.args.e (below s c.args.e c.requires.halves_value.1)
    (few_halves (p s) (nodes s) (accepted s) c.requires.weights.0) l.c
    (l.invariant ∙ ap (filled (coefficient_entry (p s) (nodes s) c.args.e) (replicate 80 0)) done)
