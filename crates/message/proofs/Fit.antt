-- Where the fields 03 of a message lie, and their parts.
use mathlib.Core.Path.{◌≡◌, refl}
use mathlib.Core.Bool.{◌&&◌}
use mathlib.Core.List.{List}
use Prim.Native.Nat.{ℕ, ◌+◌, ◌*◌, ◌≤◌, ◌<◌}
use native.Mathlib.Nat.{mul-le-mul}
use native.Mathlib.Omega.{arith}
use lib.Dec.{eqb}
use lib.ListN.{length, get_or}
use Rattle.lists.specs.Put.{slice, same}
use Rattle.fields.specs.Fields.{two_bytes, opening, opening_length}
use Rattle.document.specs.declared.Profile.{Profile}
use Rattle.document.specs.declared.Place.{Place}
use Rattle.document.specs.declared.Recording.{Recording}
use Rattle.document.specs.Profile.{Accepted, max_nodes, max_rows, max_strip}
use Rattle.document.specs.Places.{same_place, Within}
use Rattle.document.specs.Encoding.{start}
use Rattle.document.specs.Message.{
  recording_bytes,
  head_length,
  strip_field_length,
  strip_field_start,
  place_in,
  recording_in,
  placed,
  fresh,
}
use Rattle.document.proofs.Message.{profile_short, recording_length_lem}
use Rattle.document.proofs.Bounds.{room, strip_within, array_bound}
use Rattle.message.specs.PlaceBytes.{Bounded}

module _ (p : Profile) (m : ℕ) where
  open p use {s as S}

  -- no sum overflows on the way to a field 03
  pub fields_bound : (i : ℕ) → Accepted p → Bounded m i → head_length p m + i * strip_field_length S ≤ 131072
  fields_bound i acc bounded =
      let most : i * strip_field_length S ≤ max_nodes * max_rows * strip_field_length max_strip =
      mul-le-mul {n₁ = i} {m₁ = strip_field_length S} {n₂ = max_nodes * max_rows} {m₂ = strip_field_length max_strip}
      bounded.few (omega (arith, acc.short)) in
      omega (arith, bounded.short, profile_short p)

  -- where there is room for the fields 03 of P strips, there is room for each of them, and for the head
  pub field_room : (P i : ℕ) → i < P → strip_field_start p m i + strip_field_length S ≤ strip_field_start p m P
  unfolding strip_field_start
  field_room P i l = omega (arith, room i P (strip_field_length S) l)

-- the strip of a place lies within the array
pub strip_fits : (p : Profile) → Accepted p → (q : Place) → Within p q → (x : List ℕ) → length x ≡ p.n * p.a * p.s
    → (start p q + p.s ≤ length x) × (length x ≤ 49152)
unfolding start
strip_fits p acc q within x size = (omega (arith, strip_within p acc q within), omega (arith, array_bound p acc))

pub opening_size : (tag m : ℕ) → length (opening tag m) ≡ opening_length
unfolding opening two_bytes
opening_size tag m = refl

module _ (b : List ℕ) (at : ℕ) where
  pub placed_is : (q : Place)
      → (eqb (get_or b (at + 3) 0) q.node.0 && eqb (get_or b (at + 3 + 1) 0) q.row.0) ≡ placed q b at
  unfolding placed same_place place_in
  placed_is q = refl

  pub fresh_is : (r : Recording) {id : List ℕ} → id ≡ recording_bytes r
      → same (slice b (at + 3 + 2) (length id)) id ≡ fresh r b at
  unfolding fresh recording_in
  fresh_is r d = rw (d, recording_length_lem)
