-- A message to read: when a reader refuses it. Wanted are the profile p, m bytes of content in field 02, the recording
-- r and the places qs. Document 01 has one message, the bundle: with K2 m is 7 there, and the places are the planned
-- ones (Bundle.antt). Field 01 takes 9 bytes in edition 1 and 10 in edition 2, field 02 takes 3+m, so that the fields
-- 03, of 11+S bytes each, start at 12+m or at 13+m: in a bundle at 19 or at 20.
--
-- by_edition p one two                 : `one` in edition 1, `two` in edition 2, for an accepted profile
-- field_start p m i                    : where the field 03 of strip i starts, from 0
-- Formed p m P b                      : b has the length, the tags and the field lengths of a message with P places
-- Headed p m content b                : its fields 01 and 02 have the content that is wanted
-- place_read b at                      : the place in the field 03 that starts at `at`
-- OfRecording r b at                  : its scenario and its run are those of the recording r
-- strip_sentences p m r qs b           : the lines for the strips of a message to read
-- message_sentences p m content r qs b : the lines for a message to read. A reader's tests decide them, where m is the
--                                       length of the content: proofs/Message.antt, message_decided
use Rattle.std.specs.Prelude.{◌≡◌, ◌≢◌, List, [], ◌∷◌, ◌++◌, cond, ℕ, ◌+◌, ◌*◌, ◌<◌, eqb, length, get_or}
use Rattle.lists.specs.Listed.{listed}
use Rattle.lists.specs.Put.{slice}
use Rattle.fields.specs.Fields.{two_bytes, four_bytes}
use Rattle.document.specs.declared.Profile.{Profile}
use Rattle.document.specs.declared.Place.{Place}
use Rattle.document.specs.declared.Recording.{Recording}
use Rattle.document.specs.declared.Refusal.TheVariants.{Form, Head, Misplaced, Stale}
use Rattle.document.specs.Places.{place, place_at}
use Rattle.demands.specs.Tables.{Sentence}

-- K6: 'Field 01 gets a last byte, edition 2, and length 7; a field of length 6 is edition 1.'
unfoldable pub by_edition : {X : Type 0} → Profile → X → X → X
by_edition p one two = cond (eqb p.edition 1) one two

abbrev pub field_start : Profile → ℕ → ℕ → ℕ
field_start p m i = by_edition p 12 13 + m + i * (11 + p.s)

-- 'bundle's total length, tags or field lengths': a field opens with a one-byte tag and a two-byte length.
pub record Formed (p : Profile) (m P : ℕ) (b : List ℕ) : Type 0 where
  -- K2: 'a bundle 19 + P(11+S)', P the number of places, where 19 is 12+m; one byte more in edition 2
  pub total : length b ≡ by_edition p 12 13 + m + P * (11 + p.s)
  -- '01, length 6', in edition 2 'length 7'
  pub field_01 : slice b 0 3 ≡ 1 ∷ 0 ∷ by_edition p 6 7 ∷ []
  -- K2: 'Field 02 has length 7', where 7 is m
  pub field_02 : slice b (by_edition p 9 10) 3 ≡ 2 ∷ two_bytes m
  -- K2: 'field 03 length 8+S', 'once a planned place'
  pub fields_03 : (i : ℕ) → i < P → slice b (field_start p m i) 3 ≡ 3 ∷ two_bytes (8 + p.s)

-- 'content of field 01 or 02'
pub record Headed (p : Profile) (m : ℕ) (content b : List ℕ) : Type 0 where
  -- 'n, k, A, t, S in two bytes', and 'a last byte, edition 2'
  pub field_01 : slice b 3 (by_edition p 6 7)
      ≡ p.n ∷ p.k ∷ p.a ∷ p.t ∷ (two_bytes p.s ++ by_edition p [] (2 ∷ []))
  pub field_02 : slice b (by_edition p 12 13) m ≡ content

-- 'node, row, scenario number, strip', and the run 'after the scenario number': what a field 03 says of its strip, past
-- its tag and length.
abbrev pub place_read : List ℕ → ℕ → Place
place_read b at = place (get_or b (at + 3) 0) (get_or b (at + 4) 0)

-- K2: 'A recording is a scenario and a run'.
pub record OfRecording (r : Recording) (b : List ℕ) (at : ℕ) : Type 0 where
  -- 'scenario number in four bytes'
  pub scenario : slice b (at + 5) 4 ≡ four_bytes r.scenario
  -- 'two bytes more, after the scenario number. .. The run goes high byte first'
  pub run : slice b (at + 9) 2 ≡ two_bytes r.run

-- 8: 'some strip's place differs from the plan's', with its index. 9: 'some strip's scenario differs from the wanted
-- one', with its index; K2: '7 and 9 compare both numbers'. 'The lowest number that applies is the answer, also where a
-- stale strip stands before a misplaced one.'
unfoldable pub strip_sentences : Profile → ℕ → Recording → List Place → List ℕ → List Sentence
strip_sentences p m r qs b =
    listed (length qs) (λ i. record { refusal = Misplaced i; says = place_read b (field_start p m i) ≢ place_at qs i })
    ++ listed (length qs) (λ i. record { refusal = Stale i; says = OfRecording r b (field_start p m i) → ⊥ })

-- 6: '.. differ from those of the wanted profile and node'. 7: '.. differs from what is wanted'. K6: '6 and 7 read the
-- edition too'.
unfoldable pub message_sentences : Profile → ℕ → List ℕ → Recording → List Place → List ℕ → List Sentence
message_sentences p m content r qs b =
    record { refusal = Form; says = Formed p m (length qs) b → ⊥ }
    ∷ record { refusal = Head; says = Headed p m content b → ⊥ }
    ∷ strip_sentences p m r qs b
