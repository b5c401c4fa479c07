-- A message as it is written: its length, and what a reader finds in it.
use mathlib.Core.Path.{◌≡◌, refl, sym, ap, ap₂, ◌∙◌}
use mathlib.Core.Bool.{Bool, true, false, ◌&&◌, cond}
use mathlib.Core.List.{List, [], ◌∷◌, ◌++◌, append-nil, append_assoc}
use Prim.Native.Nat.{ℕ, zero, suc, ◌+◌, ◌*◌, ◌≤◌, ◌<◌}
use native.Mathlib.Nat.{add-zero, zero-mul, suc-mul, add_assoc, not-suc-le-zero}
use native.Mathlib.Omega.{arith}
use lib.Dec.{eqb}
use lib.ListN.{length, get_or, take, length-append}
use lib.Seq.{take-length}
use borrow.Author.Tests.{eqb-true}
use Rattle.lists.specs.Listed.{listed}
use Rattle.lists.specs.Put.{slice}
use Rattle.lists.specs.Each.{Each, none, also}
use Rattle.lists.proofs.Listed.{listed_add}
use Rattle.lists.proofs.Slice.{slice_left, slice_right, slice_at}
use Rattle.lists.proofs.Each.{each_at}
use Rattle.fields.specs.Fields.{two_bytes, four_bytes, opening, opening_length, field_of}
use Rattle.fields.proofs.Fields.{field_length, field_opening, field_content}
use Rattle.document.specs.declared.Profile.{Profile}
use Rattle.document.specs.declared.Place.{Place}
use Rattle.document.specs.declared.Recording.{Recording}
use Rattle.document.specs.Places.{place, place_at}
use Rattle.document.specs.Message.{
  recording_bytes,
  recording_length,
  edition_bytes,
  profile_content,
  profile_content_length,
  max_profile_content,
  profile_field_length,
  strip_content,
  strip_content_length,
  strip_field_length,
  strip_offset,
  message_length,
  strip_fields,
  message_of,
  place_in,
  recording_in,
  strip_in,
  strip_field_start,
  formed,
}

pub recording_length_lem : (r : Recording) → length (recording_bytes r) ≡ recording_length
unfolding recording_bytes four_bytes two_bytes
recording_length_lem r = refl

-- in edition 1 six bytes, else seven
pub profile_length : (p : Profile) → profile_content_length p ≡ cond (eqb p.edition 1) 6 7
unfolding profile_content two_bytes edition_bytes
profile_length p = go (eqb p.edition 1)
  where
    go : (first : Bool) → length (0 ∷ 0 ∷ 0 ∷ 0 ∷ 0 ∷ 0 ∷ cond first [] (p.edition ∷ [])) ≡ cond first 6 7
    go true = refl
    go false = refl

pub profile_short : (p : Profile) → profile_content_length p ≤ max_profile_content
profile_short p = rw profile_length (go (eqb p.edition 1))
  where
    go : (first : Bool) → cond first 6 7 ≤ max_profile_content
    go true = omega arith
    go false = omega arith

module _ (r : Recording) (strips : Place → List ℕ) where
  abbrev pub field_at : Place → List ℕ
  field_at q = field_of 3 (strip_content q r (strips q))

  fields_append : (qs rs : List Place)
      → strip_fields r strips (qs ++ rs) ≡ strip_fields r strips qs ++ strip_fields r strips rs
  unfolding strip_fields
  fields_append [] rs = refl
  fields_append (q ∷ qs) rs =
      ap (λ (l : List ℕ). field_at q ++ l) (fields_append qs rs)
      ∙ sym (append_assoc (field_at q) (strip_fields r strips qs) (strip_fields r strips rs))

  -- one field more
  pub fields_next : (g : ℕ → Place) (i : ℕ)
      → strip_fields r strips (listed i g) ++ field_at (g i) ≡ strip_fields r strips (listed (i + 1) g)
  unfolding strip_fields listed
  fields_next g i =
      let more : listed (i + 1) g ≡ listed i g ++ (g i ∷ []) =
      listed_add i 1 g ∙ ap (λ (e : ℕ). listed i g ++ (g e ∷ [])) (add-zero i) in
      ap (λ (l : List ℕ). strip_fields r strips (listed i g) ++ l) (sym (append-nil (field_at (g i))))
      ∙ sym (ap (strip_fields r strips) more ∙ fields_append (listed i g) (g i ∷ []))

  module _ (S : ℕ) where
    -- the strip for a place is whole
    abbrev pub Whole : Place → Type 0
    Whole q = length (strips q) ≡ S

    pub content_length : (q : Place) → Whole q → length (strip_content q r (strips q)) ≡ strip_content_length S
    unfolding strip_content
    content_length q whole =
        let rest : length (recording_bytes r ++ strips q) ≡ recording_length + S =
        length-append (recording_bytes r) (strips q) ∙ ap₂ (λ (u v : ℕ). u + v) (recording_length_lem r) whole in
        omega arith

    strip_field_length_lem : (q : Place) → Whole q → length (field_at q) ≡ strip_field_length S
    strip_field_length_lem q whole = omega (arith, field_length 3 (strip_content q r (strips q)), content_length q whole)

    pub fields_length : {qs : List Place} → Each Whole qs
        → length (strip_fields r strips qs) ≡ length qs * strip_field_length S
    unfolding strip_fields
    fields_length none = sym (zero-mul (strip_field_length S))
    fields_length (also {x = q} {xs = qs} w ws) =
        length-append (field_at q) (strip_fields r strips qs)
        ∙ omega (arith, strip_field_length_lem q w, fields_length ws, suc-mul (length qs) (strip_field_length S))

    -- a part of field i
    fields_at : {qs : List Place} → Each Whole qs → (i o m : ℕ) → i < length qs → o + m ≤ strip_field_length S
        → slice (strip_fields r strips qs) (i * strip_field_length S + o) m ≡ slice (field_at (place_at qs i)) o m
    unfolding strip_fields
    fields_at none i o m h l = absurd (not-suc-le-zero h)
    fields_at (also {x = q} {xs = qs} w ws) zero o m h l =
        ap (λ (e : ℕ). slice (field_at q ++ strip_fields r strips qs) e m) (omega (arith, zero-mul (strip_field_length S)))
        ∙ slice_left (field_at q) (strip_fields r strips qs) o m (omega (arith, strip_field_length_lem q w))
    fields_at (also {x = q} {xs = qs} w ws) (suc i) o m h l =
        ap (λ (e : ℕ). slice (field_at q ++ strip_fields r strips qs) e m)
        (omega (arith, suc-mul i (strip_field_length S), strip_field_length_lem q w))
        ∙ slice_right (field_at q) (strip_fields r strips qs) (i * strip_field_length S + o) m
        ∙ fields_at ws i o m (omega arith) l

-- strips alike for each of the places
fields_ext : (r : Recording) (u v : Place → List ℕ) {qs : List Place} → Each (λ q. u q ≡ v q) qs
    → strip_fields r u qs ≡ strip_fields r v qs
unfolding strip_fields
fields_ext r u v none = refl
fields_ext r u v (also {x = q} e es) =
    ap₂ (λ (s l : List ℕ). field_of 3 (strip_content q r s) ++ l) e (fields_ext r u v es)

pub message_ext : (p : Profile) (content : List ℕ) (r : Recording) (u v : Place → List ℕ) {qs : List Place}
    → Each (λ q. u q ≡ v q) qs → message_of p content r u qs ≡ message_of p content r v qs
unfolding message_of
message_ext p content r u v alike =
    ap (λ (l : List ℕ). field_of 1 (profile_content p) ++ (field_of 2 content ++ l)) (fields_ext r u v alike)

-- ---- a whole message
module _ (p : Profile) (content : List ℕ) (r : Recording) (strips : Place → List ℕ) {qs : List Place}
    (whole : Each (Whole r strips p.s) qs) where
  abbrev message : List ℕ
  message = message_of p content r strips qs

  -- fields 01 and 02, and the fields 03
  abbrev first : List ℕ
  first = field_of 1 (profile_content p)

  abbrev second : List ℕ
  second = field_of 2 content

  abbrev fields : List ℕ
  fields = strip_fields r strips qs

  first_length : length first ≡ profile_field_length p
  first_length = field_length 1 (profile_content p)

  pub message_length_lem : length message ≡ message_length p (length content) (length qs)
  unfolding message_of
  message_length_lem =
      rw (length-append, length-append)
      (omega (arith, first_length, field_length 2 content, fields_length r strips p.s whole))

  -- a part past field 01
  past_first : (o m : ℕ) → slice message (profile_field_length p + o) m ≡ slice (second ++ fields) o m
  unfolding message_of
  past_first o m =
      ap (λ (e : ℕ). slice message (e + o) m) (sym first_length) ∙ slice_right first (second ++ fields) o m

  pub written_first : (slice message 0 opening_length ≡ opening 1 (profile_content_length p))
      × (slice message opening_length (profile_content_length p) ≡ profile_content p)
  unfolding message_of
  written_first = (
    field_opening 1 (profile_content p) (second ++ fields),
    field_content 1 (profile_content p) (second ++ fields),
  )

  pub written_second : (slice message (profile_field_length p) opening_length ≡ opening 2 (length content))
      × (slice message (profile_field_length p + opening_length) (length content) ≡ content)
  written_second = (
    ap (λ (e : ℕ). slice message e opening_length) (sym (add-zero (profile_field_length p)))
        ∙ past_first 0 opening_length ∙ field_opening 2 content fields,
    past_first opening_length (length content) ∙ field_content 2 content fields,
  )

  module _ (i : ℕ) (below : i < length qs) where
    abbrev here : Place
    here = place_at qs i

    abbrev at : ℕ
    at = strip_field_start p (length content) i

    here_whole : Whole r strips p.s here
    here_whole = each_at (place 0 0) whole i below

    -- a part of the field 03 of strip i
    part : (o m : ℕ) → o + m ≤ strip_field_length p.s → slice message (at + o) m ≡ slice (field_at r strips here) o m
    unfolding strip_field_start
    part o m l =
        ap (λ (e : ℕ). slice message e m) (omega (arith, field_length 2 content))
        ∙ past_first (length second + (i * strip_field_length p.s + o)) m
        ∙ slice_right second fields (i * strip_field_length p.s + o) m
        ∙ fields_at r strips p.s whole i o m below l

    entry : (o : ℕ) → o < strip_field_length p.s → get_or message (at + o) 0 ≡ get_or (field_at r strips here) o 0
    entry o l =
        ap (λ (e : ℕ). get_or message e 0) (sym (add-zero (at + o)))
        ∙ sym (slice_at message (at + o) 1 0 (omega arith))
        ∙ ap (λ (v : List ℕ). get_or v 0 0) (part o 1 (omega arith))
        ∙ slice_at (field_at r strips here) o 1 0 (omega arith)
        ∙ ap (λ (e : ℕ). get_or (field_at r strips here) e 0) (add-zero o)

    pub written_opening : slice message at opening_length ≡ opening 3 (strip_content_length p.s)
    unfolding field_of opening two_bytes slice
    written_opening =
        ap (λ (e : ℕ). slice message e opening_length) (sym (add-zero at))
        ∙ part 0 opening_length (omega arith)
        ∙ ap (λ (m : ℕ). opening 3 m) (content_length r strips p.s here here_whole)

    pub written_place : place_in message at ≡ here
    unfolding place_in field_of opening two_bytes strip_content
    written_place =
        ap₂ place (entry opening_length (omega arith))
        (ap (λ (e : ℕ). get_or message e 0) (add_assoc at opening_length 1) ∙ entry (opening_length + 1) (omega arith))

    pub written_recording : recording_in message at ≡ recording_bytes r
    unfolding recording_in field_of opening two_bytes strip_content recording_bytes four_bytes slice
    written_recording =
        ap (λ (e : ℕ). slice message e recording_length) (add_assoc at opening_length 2)
        ∙ part (opening_length + 2) recording_length (omega arith)

    pub written_strip : strip_in p.s message at ≡ strips here
    unfolding strip_in field_of opening two_bytes strip_content recording_bytes four_bytes slice
    written_strip =
        part strip_offset p.s (omega arith)
        ∙ ap (λ (m : ℕ). take m (strips here)) (sym here_whole)
        ∙ take-length (strips here)

-- a message in due form has its length
pub formed_length : (p : Profile) (m P : ℕ) (b : List ℕ) → formed p m P b ≡ true → length b ≡ message_length p m P
unfolding formed
formed_length p m P b e = eqb-true _ _ (first _ _ e)
  where
    first : (c d : Bool) → c && d ≡ true → c ≡ true
    first true d h = refl
    first false d h = h
