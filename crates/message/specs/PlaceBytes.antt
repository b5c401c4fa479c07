-- A list of places in bytes, and what keeps a message's offsets small.
--
-- place_from bs i : the place that bytes 2i and 2i + 1 of bs name, node first
-- places_from bs  : the places that the bytes bs name, two bytes each
-- Bounded m P    : m bytes of content in field 02 and P places: what a two-byte length can say, and no more places than
--                  an array has
use Rattle.std.specs.Prelude.{List, ℕ, ◌+◌, ◌*◌, ◌/◌, ◌≤◌, ◌<◌, length, get_or}
use Rattle.lists.specs.Listed.{listed}
use Rattle.document.specs.declared.Place.{Place}
use Rattle.document.specs.Profile.{max_nodes, max_rows}
use Rattle.document.specs.Places.{place}

abbrev pub place_from : List ℕ → ℕ → Place
place_from bs i = place (get_or bs (2 * i) 0) (get_or bs (2 * i + 1) 0)

unfoldable pub places_from : List ℕ → List Place
places_from bs = listed (length bs / 2) (place_from bs)

pub record Bounded (m P : ℕ) : Type 0 where
  pub short : m < 65536
  pub few : P ≤ max_nodes * max_rows
