-- The bytes of a list of places: how many, of two lists in a row, and the place that stands at an index.
use mathlib.Core.Path.{◌≡◌, refl, ap, ap₂}
use mathlib.Core.List.{List, [], ◌∷◌, ◌++◌}
use Prim.Native.Nat.{ℕ, zero, suc, ◌+◌, ◌*◌}
use native.Mathlib.Omega.{arith}
use lib.ListN.{length, get_or}
use Rattle.document.specs.declared.Place.{Place}
use Rattle.document.specs.Places.{place, place_at}
use Rattle.document.specs.Plan.{plan_bytes}

pub bytes_append : (qs rs : List Place) → plan_bytes (qs ++ rs) ≡ plan_bytes qs ++ plan_bytes rs
unfolding plan_bytes
bytes_append [] rs = refl
bytes_append (q ∷ qs) rs = ap (λ (l : List ℕ). q.node.0 ∷ q.row.0 ∷ l) (bytes_append qs rs)

pub bytes_length : (qs : List Place) → length (plan_bytes qs) ≡ 2 * length qs
unfolding plan_bytes
bytes_length [] = refl
bytes_length (q ∷ qs) = omega (arith, bytes_length qs)

-- past the end both sides are 0
pub bytes_node : (qs : List Place) (i : ℕ) → get_or (plan_bytes qs) (2 * i) 0 ≡ (place_at qs i).node.0
unfolding plan_bytes
bytes_node [] i = refl
bytes_node (q ∷ qs) zero = refl
bytes_node (q ∷ qs) (suc i) =
    let e : 2 * suc i ≡ suc (suc (2 * i)) = omega arith in
    rw e (bytes_node qs i)

pub bytes_row : (qs : List Place) (i : ℕ) → get_or (plan_bytes qs) (2 * i + 1) 0 ≡ (place_at qs i).row.0
unfolding plan_bytes
bytes_row [] i = refl
bytes_row (q ∷ qs) zero = refl
bytes_row (q ∷ qs) (suc i) =
    let e : 2 * suc i + 1 ≡ suc (suc (2 * i + 1)) = omega arith in
    rw e (bytes_row qs i)

-- the place that two bytes of a plan name
pub bytes_place : (qs : List Place) (i : ℕ)
    → place (get_or (plan_bytes qs) (2 * i) 0) (get_or (plan_bytes qs) (2 * i + 1) 0) ≡ place_at qs i
bytes_place qs i = ap₂ place (bytes_node qs i) (bytes_row qs i)
