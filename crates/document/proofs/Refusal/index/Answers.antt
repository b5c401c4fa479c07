-- `Refusal::index` meets its contract: a refusal that the code does not name comes with 0.
use mathlib.Core.Path.{◌≡◌, refl, sym, ap}
use Prim.Native.Nat.{ℕ}
use Rattle.document.specs.declared.Refusal.{Refusal}
use Rattle.document.specs.declared.Refusal.TheVariants as refusals
use Rattle.document.specs.Refusals.{index_of}
use Rattle.document.proofs.Refusal.index.Goals as goal

pub returns-in-Misplaced : goal.returns-in-Misplaced
unfolding index_of
returns-in-Misplaced c = sym (ap index_of c.in-Misplaced.is)

pub returns-in-Stale : goal.returns-in-Stale
unfolding index_of
returns-in-Stale c = sym (ap index_of c.in-Stale.is)

-- a refusal that is neither of the two with an index
none : (r : Refusal) → ((i : ℕ) → r ≡ refusals.Misplaced i → ⊥) → ((i : ℕ) → r ≡ refusals.Stale i → ⊥)
    → 0 ≡ index_of r
unfolding index_of
none refusals.Shape m s = refl
none refusals.Constant m s = refl
none refusals.StripLength m s = refl
none refusals.Edition m s = refl
none refusals.OutOfRange m s = refl
none refusals.BufferLength m s = refl
none refusals.Form m s = refl
none refusals.Head m s = refl
none (refusals.Misplaced i) m s = absurd (m i refl)
none (refusals.Stale i) m s = absurd (s i refl)
none refusals.Ambiguous m s = refl

pub returns-in_default : goal.returns-in_default
returns-in_default c = none c.args.self c.in_default.not-Misplaced c.in_default.not-Stale
