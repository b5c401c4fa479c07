-- A field: its length, and its two parts, with other fields after it.
use mathlib.Core.Path.{◌≡◌, refl}
use mathlib.Core.List.{List, ◌++◌}
use Prim.Native.Nat.{ℕ, ◌+◌}
use native.Mathlib.Omega.{arith}
use lib.ListN.{length}
use lib.Seq.{take_at}
use Rattle.lists.specs.Put.{slice}
use Rattle.fields.specs.Fields.{two_bytes, opening, opening_length, field_of}

module _ (tag : ℕ) (content : List ℕ) where
  pub field_length : length (field_of tag content) ≡ opening_length + length content
  unfolding field_of opening two_bytes
  field_length = omega arith

  pub field_opening : (rest : List ℕ)
      → slice (field_of tag content ++ rest) 0 opening_length ≡ opening tag (length content)
  unfolding field_of opening two_bytes slice
  field_opening rest = refl

  pub field_content : (rest : List ℕ) → slice (field_of tag content ++ rest) opening_length (length content) ≡ content
  unfolding field_of opening two_bytes slice
  field_content rest = take_at content rest (length content) refl
