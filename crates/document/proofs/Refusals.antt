-- The numbers of refusals: none is 0, the number of success, and each has at most two digits.
use mathlib.Core.Path.{◌≡◌}
use Prim.Native.Nat.{ℕ, ◌≤◌, ◌<◌}
use native.Mathlib.Omega.{arith}
use lib.Dec.{lit≤}
use Rattle.document.specs.declared.Refusal.{Refusal}
use Rattle.document.specs.declared.Refusal.TheVariants as refusals
use Rattle.document.specs.Refusals.{number_of}

-- from 1 to 99
abbrev TwoDigits : ℕ → Type 0
TwoDigits v = (1 ≤ v) × (v ≤ 99)

number_range : (r : Refusal) → TwoDigits (number_of r)
unfolding number_of
number_range refusals.Shape = (lit≤ tt, lit≤ tt)
number_range refusals.Constant = (lit≤ tt, lit≤ tt)
number_range refusals.StripLength = (lit≤ tt, lit≤ tt)
number_range refusals.Edition = (lit≤ tt, lit≤ tt)
number_range refusals.OutOfRange = (lit≤ tt, lit≤ tt)
number_range refusals.BufferLength = (lit≤ tt, lit≤ tt)
number_range refusals.Form = (lit≤ tt, lit≤ tt)
number_range refusals.Head = (lit≤ tt, lit≤ tt)
number_range (refusals.Misplaced i) = (lit≤ tt, lit≤ tt)
number_range (refusals.Stale i) = (lit≤ tt, lit≤ tt)
number_range refusals.Ambiguous = (lit≤ tt, lit≤ tt)

pub never_zero : (r : Refusal) → number_of r ≡ 0 → ⊥
never_zero r e = omega (arith, number_range r)

pub number_bound : (r : Refusal) → number_of r < 100
number_bound r = omega (arith, number_range r)
