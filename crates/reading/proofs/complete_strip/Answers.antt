-- `reading::complete_strip` meets its contract: the front of the array holds the strip's partner.
use mathlib.Core.Path.{◌≡◌, sym, ap, ap₂, ◌∙◌}
use mathlib.Core.List.{List}
use Prim.Native.Nat.{ℕ, ◌+◌, ◌*◌, ◌/◌, ◌%◌, ◌≤◌, ◌<◌}
use native.Mathlib.Omega.{arith}
use borrow.Author.Rules.{rules}
use lib.ListN.{length, get_or, take, length-take}
use lib.Seq.{length-take-le}
use Rattle.lists.proofs.Lent.{front_fits, front}
use Rattle.ksets.proofs.Ranked.{risen_length}
use Rattle.strips.specs.Strips.{combination_of, added_scaled}
use Rattle.document.specs.declared.Profile.{Profile}
use Rattle.document.specs.declared.Place.{Place}
use Rattle.document.specs.Accepted.{Accepted}
use Rattle.document.specs.ByteField.{number}
use Rattle.document.specs.Encoding.{factor_at}
use Rattle.document.proofs.Fields.{fields, is_accepted}
use Rattle.document.proofs.Bounds.{room}
use Rattle.half_pairs.specs.HalfPairs.{named, half_pair_at}
use Rattle.half_pairs.proofs.System.{count_few}
use Rattle.reading.specs.Steps.{partner_strip, completed_strip}
use Rattle.reading.proofs.Partners.{partner_length, half_below, half_entry}
use Rattle.reading.proofs.complete_strip.Goals.{After-combine, Start}
use Rattle.reading.proofs.complete_strip.Goals as goal

module _ (s : Start) (acc : Accepted s.args.p) where
  abbrev p : Profile
  p = s.args.p

  abbrev nodes : List ℕ
  nodes = s.args.nodes.now

  abbrev z : ℕ
  z = get_or s.args.h.now.halves s.args.e 0

  few : s.args.h.now.count ≤ 80
  few = count_few s.requires.nodes_rising.1 acc s.requires.nodes_rising.0

  -- a line is an array of 80
  line_length : length s.args.line.c ≡ 80
  line_length = search rules

  -- the entry of the list of strips
  strip : z ≡ half_pair_at p nodes s.args.e
  strip = half_entry s.requires.nodes_rising.1 s.args.e s.requires.nodes_rising.2

  below : z < p.k * p.a
  below =
      rw strip
      (half_below p acc nodes s.requires.nodes_rising.0 s.args.e (omega (arith, s.requires.nodes_rising.1.count, s.requires.nodes_rising.2)))

  -- the strip lies within y
  inside : z * p.s + p.s ≤ p.k * p.a * p.s
  inside = room z (p.k * p.a) p.s below

pub joined_place-q-requires : goal.joined_place-q-requires
joined_place-q-requires c =
    let acc = is_accepted c.p.view_is c.p.invariant in
    (risen_length c.requires.nodes_rising.0, below (goal.at.joined_place-q-requires c).Start acc)

pub bounds-h-e : goal.bounds-h-e
bounds-h-e c =
    let acc = is_accepted c.p.view_is c.p.invariant in
    omega (arith, few (goal.at.bounds-h-e c).Start acc, c.requires.nodes_rising.2)

pub slice_bounds-c-end : goal.slice_bounds-c-end
slice_bounds-c-end c =
    let w = (goal.at.slice_bounds-c-end c).Start in
    let acc = is_accepted c.p.view_is c.p.invariant in
    omega (arith, few w acc, line_length w acc)

pub slice_bounds-combine-end-2 : goal.slice_bounds-combine-end-2
slice_bounds-combine-end-2 c =
    let w = (goal.at.slice_bounds-combine-end-2 c).Start in
    let acc = is_accepted c.p.view_is c.p.invariant in
    sym (length-take-le _ _ (omega (arith, few w acc, line_length w acc)))

pub combine-requires : goal.combine-requires
combine-requires c =
    let w = (goal.at.combine-requires c).Start in
    let acc = is_accepted c.p.view_is c.p.invariant in
    let size = length-take-le (c.args.h.now.count) c.args.line.c (omega (arith, few w acc, line_length w acc)) in
    rw (fields c.p.view_is) (record {
      few = omega (arith, size, few w acc);
      short = search rules;
      reach = λ q h.
          let r = room q (c.args.h.now.count) c.args.p.s (omega (arith, h, size)) in
          rw length-take (omega (arith, r, c.requires.y_len.1));
    })

-- the partner, in the front of the array
module _ (c : After-combine) where
  solved : c.combine.new.dst ≡ partner_strip c.args.p c.args.nodes.now c.args.line.c c.args.r.now
  unfolding partner_strip
  solved =
      (rw (fields c.p.view_is) at c.combine.ensures)
      ∙ ap₂ (λ (n m : ℕ). combination_of (take n c.args.line.c) c.args.r.now 0 c.args.p.s m) (c.requires.nodes_rising.1.count)
      (length-take-le _ _ (search rules))

  written : length c.combine.new.dst ≡ c.args.p.s
  written = ap length solved ∙ partner_length c.args.p c.args.nodes.now _ _

pub slice_bounds-add_multiple-end : goal.slice_bounds-add_multiple-end
slice_bounds-add_multiple-end c =
    let w = (goal.at.slice_bounds-add_multiple-end c).After-combine in
    rw (fields c.p.view_is) (sym (length-take-le _ _ (front_fits c.combine.new.dst _ (written w))))

pub add_multiple-requires : goal.add_multiple-requires
add_multiple-requires c =
    let acc = is_accepted c.p.view_is c.p.invariant in
    let e = rw (fields c.p.view_is) at (slice_bounds-add_multiple-end c) in
    rw (fields c.p.view_is)
    (omega (arith, e, inside (goal.at.add_multiple-requires c).Start acc, c.requires.y_len.0))

pub returns : goal.returns
unfolding completed_strip
returns c =
    let y = c.args.y.now in
    let p = c.args.p in
    let nodes = c.args.nodes.now in
    let w = (goal.at.returns c).After-combine in
    let z = get_or c.args.h.now.halves c.args.e 0 in
    let factor = (rw (fields c.p-2.view_is) at c.factor-f.ensures)
    ∙ ap₂ (λ (i l : ℕ). number (factor_at p i (l % p.a))) (ap (λ (q : Place). q.row.0) c.joined_place-q.ensures)
    (ap (λ (q : Place). q.node.0) c.joined_place-q.ensures) in
    (rw (fields c.p.view_is) at c.add_multiple.ensures.0)
    ∙ ap₂ (λ (v : ℕ) (l : List ℕ). added_scaled v (z * p.s) l y) factor (front c.combine.new.dst _ (written w) ∙ solved w)
    ∙ ap
    (λ (m : ℕ). added_scaled (number (factor_at p (m % p.a) (named nodes (m / p.a) % p.a))) (m * p.s)
    (partner_strip p nodes c.args.line.c c.args.r.now) y)
    (strip (goal.at.returns c).Start (is_accepted c.p.view_is c.p.invariant))
