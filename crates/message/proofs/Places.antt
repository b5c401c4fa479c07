-- The places that bytes name, and the fields 03 that are written for them.
use mathlib.Core.Path.{◌≡◌, ap, subst, ◌∙◌}
use mathlib.Core.List.{List}
use Prim.Native.Nat.{ℕ, ◌+◌, ◌*◌, ◌/◌, ◌≤◌, ◌<◌}
use native.Mathlib.Omega.{arith}
use lib.Arith.{digits_lt}
use lib.ListN.{length}
use Rattle.lists.specs.Listed.{listed}
use Rattle.lists.specs.Each.{Each}
use Rattle.lists.proofs.Each.{each_map, each_take}
use Rattle.lists.proofs.Listed.{listed_length, listed_at, listed_ext, listed_take, listed_get_or}
use Rattle.lists.proofs.Slice.{slice_length}
use Rattle.document.specs.declared.Profile.{Profile}
use Rattle.document.specs.declared.Place.{Place}
use Rattle.document.specs.declared.Recording.{Recording}
use Rattle.document.specs.Places.{place, Within, place_at}
use Rattle.document.specs.Encoding.{start, strip_of}
use Rattle.document.specs.Plan.{plan_bytes}
use Rattle.document.specs.Message.{strip_field_length, strip_fields}
use Rattle.document.proofs.Bounds.{room}
use Rattle.document.proofs.PlanBytes.{bytes_length, bytes_place}
use Rattle.document.proofs.Message.{fields_length}
use Rattle.message.specs.PlaceBytes.{place_from, places_from}

pub places_length : (bs : List ℕ) → length (places_from bs) ≡ length bs / 2
unfolding places_from
places_length bs = listed_length (length bs / 2) (place_from bs)

pub places_at_lem : (bs : List ℕ) (i : ℕ) → i < length bs / 2 → place_at (places_from bs) i ≡ place_from bs i
unfolding places_from
places_at_lem bs i h = listed_at (length bs / 2) (place_from bs) i (place 0 0) h

-- places written as bytes and read again
pub places_back : (qs : List Place) → places_from (plan_bytes qs) ≡ qs
unfolding places_from
places_back qs =
    let half : length (plan_bytes qs) / 2 ≡ length qs = omega (arith, bytes_length qs) in
    ap (λ (m : ℕ). listed m (place_from (plan_bytes qs))) half
    ∙ listed_ext (length qs) (place_from (plan_bytes qs)) (place_at qs) (λ i l. bytes_place qs i)
    ∙ listed_get_or (place 0 0) qs

-- a place's strip is whole, whatever the profile: behind a reference no invariant is known until a field is read
strip_length : (p : Profile) (x : List ℕ) → length x ≡ p.n * p.a * p.s → (q : Place) → Within p q
    → length (strip_of p x q) ≡ p.s
unfolding strip_of start
strip_length p x size q w =
    slice_length x (start p q) p.s
    (omega (arith, room (q.node.0 * p.a + q.row.0) (p.n * p.a) p.s (digits_lt w.node w.row)))

-- after i of the fields there is room for one more
pub next_fits : (p : Profile) (r : Recording) (x : List ℕ) → length x ≡ p.n * p.a * p.s
    → (bs : List ℕ) → Each (Within p) (places_from bs) → (i : ℕ) → i < length bs / 2
    → length (strip_fields r (strip_of p x) (listed i (place_from bs))) + strip_field_length p.s
    ≤ length bs / 2 * strip_field_length p.s
unfolding places_from
next_fits p r x size bs each i h =
    let w : ℕ = strip_field_length p.s in
    let some : Each (Within p) (listed i (place_from bs)) =
    subst (Each (Within p)) (listed_take i (length bs / 2) (place_from bs) (omega arith)) (each_take i each) in
    let l : length (strip_fields r (strip_of p x) (listed i (place_from bs))) ≡ i * w =
    fields_length r (strip_of p x) p.s (each_map (strip_length p x size) some)
    ∙ ap (λ (m : ℕ). m * w) (listed_length i (place_from bs)) in
    omega (arith, l, room i (length bs / 2) w h)
