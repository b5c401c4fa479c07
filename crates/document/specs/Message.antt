-- 'Fields of a one-byte tag, a two-byte length (high byte first) and content': a message is field 01, the profile; a
-- field 02 with some content; and a field 03 for each place of some list. Document 01 has one such message, the
-- download bundle (Bundle.antt). What it says of its fields is said here of a message, since requests of document 02
-- add others: the same fields 01 and 03, another field 02 and other places, refused by the same lines.
--
-- A message is written, and compared by a reader with what is wanted: the profile p, the content of field 02, the
-- recording r and the places qs. A field starts with its tag and length, `opening`; its content follows. S is the
-- length of a strip.
--
-- recording_bytes r                  : a recording in bytes: its scenario and its run
-- recording_length                   : how many bytes that is
-- edition_bytes e                    : what field 01 says of the edition
-- profile_content p                  : the content of field 01
-- profile_content_length p            : how long it is
-- max_profile_content                 : no profile's is longer
-- profile_field_length p              : the length of field 01, tag and length counted in: field 02 starts there
-- strip_content q r strip            : the content of field 03 for the place q
-- strip_content_length S              : how long it is
-- strip_field_length S                : the length of a field 03, tag and length counted in
-- strip_offset                       : where the strip starts in its field 03
-- head_length p m                    : the length of fields 01 and 02, where the content of field 02 has m bytes
-- message_length p m P               : the length of a message with such a field 02 and P places
-- strip_fields r strips qs           : the fields 03 for the places qs, where `strips q` is the strip for the place q
-- message_of p content r strips qs   : the message with the content of field 02 and these strips
--
-- Of a field 03 that starts at the offset `at` of b:
-- place_in b at                      : the place that it has
-- recording_in b at                  : the bytes of its recording
-- strip_in S b at                    : its strip
-- opened S b at                     : the test of its tag and its length
-- placed q b at                     : the test of its place, against the place q
-- fresh r b at                      : the test of its recording
--
-- strip_field_start p m i             : where the field 03 of strip i starts, from 0, in such a message
-- formed p m P b                    : the test of the total length, the tags and the field lengths
-- headed p content b                : the test of the contents of fields 01 and 02
-- message_tests p content r qs b     : the refusals 6 to 9 of a reader, in their order
use Rattle.std.specs.Prelude.{Bool, ◌&&◌, not, cond, List, [], ◌∷◌, ◌++◌, ℕ, ◌+◌, ◌*◌, eqb, length, get_or}
use Rattle.lists.specs.Listed.{listed, all}
use Rattle.lists.specs.Put.{slice, same}
use Rattle.fields.specs.Fields.{two_bytes, four_bytes, opening, opening_length, field_of}
use Rattle.document.specs.declared.Profile.{Profile}
use Rattle.document.specs.declared.Place.{Place}
use Rattle.document.specs.declared.Recording.{Recording}
use Rattle.document.specs.declared.Refusal.TheVariants.{Form, Head, Misplaced, Stale}
use Rattle.document.specs.Refusals.{Test}
use Rattle.document.specs.Places.{place, same_place, place_at}

-- 'scenario number in four bytes', and K2: 'A recording is a scenario and a run, two bytes more, after the scenario
-- number. .. The run goes high byte first'.
abbrev pub recording_length : ℕ
recording_length = 6

unfoldable pub recording_bytes : Recording → List ℕ
recording_bytes r = four_bytes r.scenario ++ two_bytes r.run

-- K6: 'Field 01 gets a last byte, edition 2, and length 7; a field of length 6 is edition 1.'
unfoldable pub edition_bytes : ℕ → List ℕ
edition_bytes e = cond (eqb e 1) [] (e ∷ [])

-- '01, length 6: n, k, A, t, S in two bytes', and the edition.
unfoldable pub profile_content : Profile → List ℕ
profile_content p = p.n ∷ p.k ∷ p.a ∷ p.t ∷ (two_bytes p.s ++ edition_bytes p.edition)

abbrev pub profile_content_length : Profile → ℕ
profile_content_length p = length (profile_content p)

abbrev pub max_profile_content : ℕ
max_profile_content = 7

-- Tag and length counted in: 9 bytes in edition 1, 10 in edition 2. 'It opens with the three bytes 01 00 06', in
-- edition 2 with 01 00 07.
abbrev pub profile_field_length : Profile → ℕ
profile_field_length p = opening_length + profile_content_length p

-- '03, .. once a planned place in plan order: node, row, scenario number, strip', K2: 'field 03 length 8+S', the run
-- after the scenario number.
unfoldable pub strip_content : Place → Recording → List ℕ → List ℕ
strip_content q r strip = q.node.0 ∷ q.row.0 ∷ (recording_bytes r ++ strip)

abbrev pub strip_content_length : ℕ → ℕ
strip_content_length S = 2 + recording_length + S

-- Tag and length counted in: 11+S bytes.
abbrev pub strip_field_length : ℕ → ℕ
strip_field_length S = opening_length + strip_content_length S

-- Past tag and length, the place and the recording.
abbrev pub strip_offset : ℕ
strip_offset = opening_length + 2 + recording_length

abbrev pub head_length : Profile → ℕ → ℕ
head_length p m = profile_field_length p + (opening_length + m)

abbrev pub message_length : Profile → ℕ → ℕ → ℕ
message_length p m P = head_length p m + P * strip_field_length p.s

-- ---- a message as it is written
unfoldable pub strip_fields : Recording → (Place → List ℕ) → List Place → List ℕ
strip_fields r strips [] = []
strip_fields r strips (q ∷ qs) = field_of 3 (strip_content q r (strips q)) ++ strip_fields r strips qs

unfoldable pub message_of : Profile → List ℕ → Recording → (Place → List ℕ) → List Place → List ℕ
message_of p content r strips qs = field_of 1 (profile_content p) ++ (field_of 2 content ++ strip_fields r strips qs)

-- ---- what a reader finds in the field 03 that starts at an offset
module _ (b : List ℕ) (at : ℕ) where
  unfoldable pub place_in : Place
  place_in = place (get_or b (at + opening_length) 0) (get_or b (at + opening_length + 1) 0)

  unfoldable pub recording_in : List ℕ
  recording_in = slice b (at + opening_length + 2) recording_length

unfoldable pub strip_in : ℕ → List ℕ → ℕ → List ℕ
strip_in S b at = slice b (at + strip_offset) S

unfoldable pub opened : ℕ → List ℕ → ℕ → Bool
opened S b at = same (slice b at opening_length) (opening 3 (strip_content_length S))

-- 8: 'some strip's place differs from the plan's'.
unfoldable pub placed : Place → List ℕ → ℕ → Bool
placed q b at = same_place (place_in b at) q

-- 9: 'some strip's scenario differs from the wanted one', K2: '7 and 9 compare both numbers'.
unfoldable pub fresh : Recording → List ℕ → ℕ → Bool
fresh r b at = same (recording_in b at) (recording_bytes r)

-- ---- the tests of a whole message
unfoldable pub strip_field_start : Profile → ℕ → ℕ → ℕ
strip_field_start p m i = head_length p m + i * strip_field_length p.s

-- 6: 'bundle's total length, tags or field lengths differ from those of the wanted profile and node'; K6: '6 and 7 read
-- the edition too'.
unfoldable pub formed : Profile → ℕ → ℕ → List ℕ → Bool
formed p m P b =
    eqb (length b) (message_length p m P)
    && (same (slice b 0 opening_length) (opening 1 (profile_content_length p))
    && (same (slice b (profile_field_length p) opening_length) (opening 2 m)
    && all P (λ i. opened p.s b (strip_field_start p m i))))

-- 7: 'content of field 01 or 02 differs from what is wanted'.
unfoldable pub headed : Profile → List ℕ → List ℕ → Bool
headed p content b =
    same (slice b opening_length (profile_content_length p)) (profile_content p)
    && same (slice b (profile_field_length p + opening_length) (length content)) content

-- '8 and 9 come with the index of the first such strip, from 0': a line for each strip. 'The lowest number that applies
-- is the answer, also where a stale strip stands before a misplaced one': all lines of 8 stand before those of 9.
unfoldable pub message_tests : Profile → List ℕ → Recording → List Place → List ℕ → List Test
message_tests p content r qs b =
    let at : ℕ → ℕ = strip_field_start p (length content) in
    record { refusal = Form; holds = not (formed p (length content) (length qs) b) }
    ∷ record { refusal = Head; holds = not (headed p content b) }
    ∷ (listed (length qs) (λ i. record { refusal = Misplaced i; holds = not (placed (place_at qs i) b (at i)) })
    ++ listed (length qs) (λ i. record { refusal = Stale i; holds = not (fresh r b (at i)) }))
