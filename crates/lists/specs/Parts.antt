-- A list made part by part, each of the same length.
--
-- parts w f m             : f 0, f 1, .. f (m - 1), each of w entries, one after the other
-- TakesParts g put w m    : `put` may be called with each number below m and any part of w bytes
-- LeavesParts g put w m f : what `put` leaves of a part that it is called with is f of the number
use Rattle.std.specs.Prelude.{◌≡◌, List, ℕ, ◌*◌, ◌/◌, ◌%◌, ◌<◌, length, get_or}
use Rattle.std.specs.Borrow.{MutBor}
use Rattle.std.specs.Fn.{Shared}
use Rattle.lists.specs.Listed.{listed}

abbrev pub parts : ℕ → (ℕ → List ℕ) → ℕ → List ℕ
parts w f m = listed (m * w) (λ o. get_or (f (o / w)) (o % w) 0)

-- g is what the bound on a function's type says of its calls
module _ {F : Type 0} (g : Shared F (ℕ × (MutBor (List ℕ) × Unit {0})) (Unit {0} × (MutBor (List ℕ) × Unit {0})))
    (put : F) (w m : ℕ) where
  abbrev pub TakesParts : Type 0
  TakesParts = (i : ℕ) (part : MutBor (List ℕ)) → i < m → length part.now ≡ w → g.pre put (i, (part, tt))

  abbrev pub LeavesParts : (ℕ → List ℕ) → Type 0
  LeavesParts f =
      (i : ℕ) (part left : MutBor (List ℕ)) → i < m → length part.now ≡ w → g.post put (i, (part, tt)) (tt, (left, tt))
      → left.now ≡ f i
