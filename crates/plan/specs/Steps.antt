-- What the functions of the plan leave.
--
-- in_step step A f j : the step goes over node j, where f is lost
-- places_at A f j    : the places read for node j: row c, and the partner of that place where j is off the diagonal
-- places_of A f js   : those of each of the nodes js
use Rattle.std.specs.Prelude.{Bool, cond, List, [], ◌∷◌, ◌++◌, ℕ}
use Rattle.document.specs.declared.Node.{Node}
use Rattle.document.specs.declared.Place.{Place}
use Rattle.document.specs.Places.{partner_of}
use Rattle.document.specs.Plan.{is_own, is_diagonal, is_off_diagonal, row_at}
use Rattle.plan.specs.declared.Step.{Step}
use Rattle.plan.specs.declared.Step.TheVariants.{Own, Diagonal, OffDiagonal}

unfoldable pub in_step : Step → ℕ → Node → ℕ → Bool
in_step Own = is_own
in_step Diagonal = is_diagonal
in_step OffDiagonal = is_off_diagonal

unfoldable pub places_at : ℕ → Node → ℕ → List Place
places_at A f j = row_at A f j ∷ cond (is_off_diagonal A f j) (partner_of A (row_at A f j) ∷ []) []

unfoldable pub places_of : ℕ → Node → List ℕ → List Place
places_of A f [] = []
places_of A f (j ∷ js) = places_at A f j ++ places_of A f js
