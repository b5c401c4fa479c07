-- What the search of a survey leaves.
--
-- Found p start end r x  : r is the first failing position from `start` on before `end`, if there is one; its set is x,
--                          which has k entries in any case
use Rattle.std.specs.Prelude.{◌≡◌, List, ℕ, ◌-◌, ◌<◌, length, Option, Some, None}
use Rattle.ksets.specs.Sets.{set_at}
use Rattle.document.specs.declared.Profile.{Profile}
use Rattle.document.specs.Survey.{fails_at, first_in}

pub record Found (p : Profile) (start end : ℕ) (r : Option ℕ) (x : List ℕ) : Type 0 where
  pub some : (pos : ℕ) → r ≡ Some pos → (pos ≡ first_in (fails_at p) start (end - start)) × (pos < end)
  pub none : r ≡ None → end ≡ first_in (fails_at p) start (end - start)
  pub set : (pos : ℕ) → r ≡ Some pos → x ≡ set_at 0 p.n p.k pos
  pub size : length x ≡ p.k
