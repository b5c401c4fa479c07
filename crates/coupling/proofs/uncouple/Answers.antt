-- `coupling::uncouple` meets its contract: the front of the array holds the strip, and then the sum of the two.
use mathlib.Core.Path.{◌≡◌, ap, ◌∙◌}
use lib.ListN.{length}
use Rattle.lists.proofs.Lent.{front}
use Rattle.strips.specs.Strips.{added_scaled}
use Rattle.strips.proofs.Added.{added_length}
use Rattle.coupling.specs.Pairs.{multiple_of}
use Rattle.coupling.proofs.Multiples.{uncoupled}
use Rattle.coupling.proofs.uncouple.Goals as goal

pub returns : goal.returns
returns c =
    let a = c.args in
    let own = c.copy_from_slice.ensures.after in
    let summed : c.add_times.new.x ≡ added_scaled a.f 0 a.partner.now a.own.now =
    c.add_times.ensures
    ∙ ap (added_scaled a.f 0 a.partner.now)
    (front c.copy_from_slice.new.self _ (ap length own ∙ c.requires.1) ∙ own) in
    let size = ap length summed ∙ added_length a.f 0 a.partner.now a.own.now ∙ c.requires.1 in
    c.put_multiple.ensures ∙ ap (multiple_of a.d) (front c.add_times.new.x _ size ∙ summed)
    ∙ uncoupled a.f a.d (length a.out.now) a.own.now a.partner.now c.requires.1 c.requires.2
