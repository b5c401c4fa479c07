-- What K2 rules out: 'Document 01 lets strips pass together if their scenario matches. We ran scenario 212 twice in one
-- afternoon, and a rebuild mixed the two.'
--
-- PutTogether r recording_of b : b has the fields 01 and 02 of a bundle cut for the recording r, and for each i the
--                               field 03 of strip i of a bundle cut for `recording_of i`; all are cut for the wanted
--                               numbers and node
-- OneRecording                : such a bundle is not refused only if all of it is of the wanted recording
--                                                                                                   one_recording
-- MixedRefused                : with the wanted head it is refused with 9 at the first strip of another recording
--                                                                                                   mixed_refused
-- TogetherPasses              : it is not refused where all strips are of the wanted recording      together_passes
-- OldForm b                   : field 02 of b opens as document 01 has it, or b has the length that document 01 gives a
--                               bundle for what is wanted
-- OldRefused                  : past 1 to 5 and 13 it is refused with 6                             old_refused
-- Shown in proofs/Recordings.antt, under the name beside each.
--
-- In all of them p are the wanted numbers, f is the wanted node, r or w a recording, b a bundle, y what the buffer lent
-- for the column holds.
use Rattle.std.specs.Prelude.{◌≡◌, ◌≢◌, ◌⊎◌, List, [], ◌∷◌, ℕ, ◌+◌, ◌*◌, ◌<◌, length, Err}
use Rattle.lists.specs.Put.{slice}
use Rattle.document.specs.declared.Numbers.{Numbers}
use Rattle.document.specs.declared.Place.{Place}
use Rattle.document.specs.declared.Recording.{Recording}
use Rattle.document.specs.declared.Refusal.TheVariants.{Form, Stale}
use Rattle.document.specs.Profile.{Accepted, profile_of}
use Rattle.document.specs.Plan.{planned}
use Rattle.document.specs.Rebuild.{rebuild_of}
use Rattle.demands.specs.Message.{by_edition}
use Rattle.demands.specs.Bundle.{CutFrom}
use Rattle.demands.specs.Rebuild.{NotRefused, InSixBytes}

module _ (p : Numbers) (f : ℕ) where
  abbrev plan : List Place
  plan = planned (profile_of p) (record { 0 = f })

  -- 'a bundle 19 + P(11+S)': the head takes 19 bytes, or 20 in edition 2, each field 03 takes 11+S.
  abbrev head_bytes : ℕ
  head_bytes = by_edition (profile_of p) 19 20

  abbrev strip_start : ℕ → ℕ
  strip_start i = head_bytes + i * (11 + p.s)

  pub record PutTogether (r : Recording) (recording_of : ℕ → Recording) (b : List ℕ) : Type 0 where
    pub size : length b ≡ head_bytes + length plan * (11 + p.s)
    pub head : (x c : List ℕ) × CutFrom p f x r c × (slice b 0 head_bytes ≡ slice c 0 head_bytes)
    pub strips : (i : ℕ) → i < length plan
        → (x c : List ℕ) × CutFrom p f x (recording_of i) c
        × (slice b (strip_start i) (11 + p.s) ≡ slice c (strip_start i) (11 + p.s))

  -- The bundles may be cut from any stored arrays, and the strips be of any number of recordings. Whichever recording w
  -- is wanted, no mixture passes.
  abbrev pub OneRecording : Type 0
  OneRecording =
      (r w : Recording) (recording_of : ℕ → Recording) (b y : List ℕ) → PutTogether r recording_of b
      → NotRefused p f w b y → InSixBytes w → InSixBytes r
      → ((i : ℕ) → i < length plan → InSixBytes (recording_of i))
      → (r ≡ w) × ((i : ℕ) → i < length plan → recording_of i ≡ w)

  -- The head is of the wanted recording r. With another head the answer is 7, by the table.
  abbrev pub MixedRefused : Type 0
  MixedRefused =
      (r : Recording) (recording_of : ℕ → Recording) (b y : List ℕ) → PutTogether r recording_of b
      → length y ≡ p.a * p.s → (i : ℕ) → i < length plan → ((e : ℕ) → e < i → recording_of e ≡ r)
      → recording_of i ≢ r → InSixBytes r → InSixBytes (recording_of i) → rebuild_of p f r b y ≡ (Err (Stale i), y)

  abbrev pub TogetherPasses : Type 0
  TogetherPasses =
      (r : Recording) (recording_of : ℕ → Recording) (b y : List ℕ) → PutTogether r recording_of b
      → length y ≡ p.a * p.s → ((i : ℕ) → i < length plan → recording_of i ≡ r) → NotRefused p f r b y

  -- 'old bundles get 6', whichever edition is wanted. Of document 01: '02, length 5', where field 02 starts at 9, and
  -- 'Length: 17 + P(9+S)'. Every old bundle has that opening, also one for another profile that has the length of a new
  -- one; the length is that of an old bundle for the wanted profile and node.
  abbrev pub OldForm : List ℕ → Type 0
  OldForm b = (slice b 9 3 ≡ 2 ∷ 0 ∷ 5 ∷ []) ⊎ (length b ≡ 17 + length plan * (9 + p.s))

  -- Past 1 to 5 and 13: the profile is accepted, the node is one of it, and the column has its AS bytes.
  abbrev pub OldRefused : Type 0
  OldRefused =
      Accepted (profile_of p) → f < p.n → (r : Recording) (b y : List ℕ) → length y ≡ p.a * p.s → OldForm b
      → rebuild_of p f r b y ≡ (Err Form, y)
