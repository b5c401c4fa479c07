-- How large the square, the plans and the bundles of an accepted profile can be.
--
-- Ceilings : none is larger than its ceiling. Shown in proofs/Ceilings.antt: ceilings
use Rattle.std.specs.Prelude.{◌*◌, ◌≤◌, ◌<◌, length}
use Rattle.square.specs.Steps.{side}
use Rattle.document.specs.declared.Profile.{Profile}
use Rattle.document.specs.declared.Node.{Node}
use Rattle.document.specs.Profile.{Accepted}
use Rattle.document.specs.Plan.{planned, max_places}
use Rattle.document.specs.Bundle.{bundle_length, longest_bundle}

pub record Ceilings : Type 0 where
  -- 'The coefficient square of one reading, at most 80 by 80 field elements'
  pub square : (p : Profile) → Accepted p → p.k * p.a ≤ side
  -- 'Examples: .. (24,20,4) 38': no plan has more places
  pub places : (p : Profile) → Accepted p → (f : Node) → f.0 < p.n → length (planned p f) ≤ max_places
  -- no bundle is longer
  pub bundle : (p : Profile) → Accepted p → (f : Node) → f.0 < p.n → bundle_length p f ≤ longest_bundle
