-- The plan's places, written into a buffer with room for the most places and handed on to a message.
use mathlib.Core.Path.{◌≡◌, sym, ap, subst, ◌∙◌}
use mathlib.Core.List.{List}
use Prim.Native.Nat.{ℕ, ◌*◌, ◌/◌, ◌≤◌, ◌<◌}
use native.Mathlib.Omega.{arith}
use lib.ListN.{length, take}
use lib.Seq.{length-take-le}
use Rattle.lists.specs.Put.{Wrote}
use Rattle.lists.specs.Each.{Each}
use Rattle.lists.proofs.Put.{wrote_front}
use Rattle.document.specs.declared.Profile.{Profile}
use Rattle.document.specs.declared.Node.{Node}
use Rattle.document.specs.Profile.{Accepted}
use Rattle.document.specs.Places.{Within}
use Rattle.document.specs.Plan.{planned, plan_bytes, max_places}
use Rattle.document.proofs.Price.{few_places}
use Rattle.document.proofs.PlanBytes.{bytes_length}
use Rattle.document.proofs.Chosen.{plan_within}
use Rattle.message.specs.PlaceBytes.{places_from}
use Rattle.message.proofs.Places.{places_length, places_back}

-- the front of a list
pub taken : (m : ℕ) (l : List ℕ) → m ≤ length l → m ≡ length (take m l)
taken m l h = sym (length-take-le m l h)

module _ (p : Profile) (acc : Accepted p) (f : Node) (h : f.0 < p.n) where
  -- the plan's bytes fit
  pub bytes_bound : length (plan_bytes (planned p f)) ≤ 2 * max_places
  bytes_bound = omega (arith, bytes_length (planned p f), few_places p acc f h)

  module _ {d e : List ℕ} {end : ℕ} (w : Wrote d 0 (plan_bytes (planned p f)) end e) where
    pub places_are : places_from (take end e) ≡ planned p f
    places_are = ap places_from (wrote_front w).1 ∙ places_back (planned p f)

    pub places_number : length (take end e) / 2 ≡ length (planned p f)
    places_number = sym (places_length (take end e)) ∙ ap length places_are

    pub places_within : Each (Within p) (places_from (take end e))
    places_within = subst (Each (Within p)) (sym places_are) (plan_within p acc f h)
