-- `reading::known_partners` meets its contract: a call leaves what is known of its half pair's partner.
use mathlib.Core.Path.{◌≡◌, ap, ◌∙◌}
use Prim.Native.Nat.{ℕ, ◌*◌, ◌≤◌, ◌<◌}
use native.Mathlib.Omega.{arith}
use borrow.Author.Rules.{rules}
use lib.ListN.{length, get_or}
use Rattle.lists.specs.Parts.{parts}
use Rattle.document.specs.Accepted.{Accepted}
use Rattle.document.proofs.Fields.{fields, is_accepted}
use Rattle.half_pairs.specs.HalfPairs.{half_pairs, half_pair_at}
use Rattle.reading.specs.Steps.{known_partner_strip, known_partner_strips}
use Rattle.half_pairs.proofs.System.{count_few}
use Rattle.reading.proofs.Partners.{half_below, half_entry}
use Rattle.reading.proofs.known_partners.Goals.{Start}
use Rattle.reading.proofs.known_partners.Goals as goal

module _ (s : Start) where
  -- the e-th of them
  listed : (e : ℕ) → e < s.args.h.now.count → get_or s.args.h.now.halves e 0 ≡ half_pair_at s.args.p s.args.nodes.now e
  listed = half_entry s.requires.nodes_rising.1

  below : Accepted s.args.p → (e : ℕ) → e < s.args.h.now.count → get_or s.args.h.now.halves e 0 < s.args.p.k * s.args.p.a
  below acc e h =
      let inside : e < length (half_pairs s.args.p s.args.nodes.now) = omega (arith, h, s.requires.nodes_rising.1.count) in
      rw (listed e h) (half_below s.args.p acc s.args.nodes.now s.requires.nodes_rising.0 e inside)

pub each_part-requires-clause-takes : goal.each_part-requires-clause-takes
each_part-requires-clause-takes c = λ e strip h size.
    let acc = is_accepted c.p.view_is c.p.invariant in
    let few : c.args.h.now.count ≤ 80 = count_few c.requires.nodes_rising.1 acc c.requires.nodes_rising.0 in
    let inside : e < 80 = omega (arith, h, few) in
    let b = below (goal.at.each_part-requires-clause-takes c).Start acc e h in
    search rules

pub returns : goal.returns
unfolding known_partner_strips
returns c =
    let p = c.args.p in
    let y = c.args.y.now in
    let nodes = c.args.nodes.now in
    let w = (goal.at.returns c).Start in
    (rw (fields c.p.view_is) at
    (c.each_part.ensures (λ e. known_partner_strip p nodes y (half_pair_at p nodes e))
    (λ e strip left h size s. rw (← listed w e h) (search rules))))
    ∙ ap (parts p.s (λ e. known_partner_strip p nodes y (half_pair_at p nodes e))) c.requires.nodes_rising.1.count
