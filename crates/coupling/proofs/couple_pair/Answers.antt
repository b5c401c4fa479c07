-- `coupling::couple_pair` meets its contract: the fronts of the two arrays hold the strips as they were.
use mathlib.Core.Path.{◌≡◌, ap, ◌∙◌}
use Prim.Native.Nat.{ℕ}
use native.Mathlib.Omega.{arith}
use lib.ListN.{length}
use Rattle.lists.proofs.Lent.{front}
use Rattle.strips.specs.Strips.{strip_at, added_scaled}
use Rattle.strips.proofs.Strip.{strip_length, strip_part}
use Rattle.coupling.proofs.Changed.{both_added}
use Rattle.coupling.proofs.couple_pair.Goals.{After-copy_from_slice-2}
use Rattle.coupling.proofs.couple_pair.Goals as goal

-- the two strips, copied out
module _ (c : After-copy_from_slice-2) where
  abbrev s : ℕ
  s = c.args.s

  upper : c.copy_from_slice.new.self ≡ strip_at c.args.x.now c.args.upper s
  upper = c.copy_from_slice.ensures.after ∙ strip_part c.args.x.now c.args.upper s c.requires.2

  lower : c.copy_from_slice-2.new.self ≡ strip_at c.args.x.now c.args.lower s
  lower = c.copy_from_slice-2.ensures.after ∙ strip_part c.args.x.now c.args.lower s (omega (arith, c.requires))

pub returns : goal.returns
returns c =
    let a = c.args in
    let w = (goal.at.returns c).After-copy_from_slice-2 in
    c.add_multiple.ensures.0
    ∙ ap (added_scaled a.t a.lower _) c.add.ensures
    ∙ both_added a.t a.upper a.lower a.s a.x.now c.requires.1 _ _
    (front c.copy_from_slice.new.self _ (ap length (upper w) ∙ strip_length a.x.now a.upper a.s) ∙ upper w)
    (front c.copy_from_slice-2.new.self _ (ap length (lower w) ∙ strip_length a.x.now a.lower a.s) ∙ lower w)
