-- What a reader finds in the bytes b, where the message w is wanted.
--
-- count_of w         : the number of places of w
-- field_start w i    : where the field 03 of strip i starts
-- opened_in w b i    : the test of its tag and its length
-- placed_in w b i    : the test of its place
-- fresh_in w b i     : the test of its recording
-- Passes T n         : each number below n passes the test T
-- FirstNot T n found : found is the first number below n that fails the test T, None if there is none
use Rattle.std.specs.Prelude.{◌≡◌, Bool, true, false, Option, List, ℕ, ◌/◌, ◌<◌, length, MatchOption}
use Rattle.document.specs.Places.{place_at}
use Rattle.document.specs.Message.{opened, placed, fresh, strip_field_start}
use Rattle.message.specs.declared.Message.{Message}
use Rattle.message.specs.PlaceBytes.{places_from}

module _ (w : Message) where
  abbrev pub count_of : ℕ
  count_of = length w.places.now / 2

  abbrev pub field_start : ℕ → ℕ
  field_start i = strip_field_start w.profile (length w.content.now) i

  module _ (b : List ℕ) (i : ℕ) where
    abbrev pub opened_in : Bool
    opened_in = opened w.profile.s b (field_start i)

    abbrev pub placed_in : Bool
    placed_in = placed (place_at (places_from w.places.now) i) b (field_start i)

    abbrev pub fresh_in : Bool
    fresh_in = fresh w.recording b (field_start i)

abbrev pub Passes : (ℕ → Bool) → ℕ → Type 0
Passes T n = (e : ℕ) → e < n → T e ≡ true

abbrev pub FirstNot : (ℕ → Bool) → ℕ → Option ℕ → Type 0
FirstNot T n found = MatchOption found (Passes T n) (λ i. (i < n) × (T i ≡ false) × Passes T i)
