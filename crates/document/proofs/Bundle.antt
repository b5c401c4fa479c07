-- A bundle: the message of the planned places, whose strips are those of a stored array.
use mathlib.Core.Path.{◌≡◌, ap, ◌∙◌}
use mathlib.Core.List.{List}
use Prim.Native.Nat.{ℕ, ◌*◌, ◌≤◌, ◌<◌}
use native.Mathlib.Nat.{mul-le-mul}
use native.Mathlib.Omega.{arith}
use lib.ListN.{length}
use Rattle.lists.specs.Each.{Each}
use Rattle.lists.proofs.Each.{each_map}
use Rattle.lists.proofs.Slice.{slice_length}
use Rattle.document.specs.declared.Profile.{Profile}
use Rattle.document.specs.declared.Node.{Node}
use Rattle.document.specs.declared.Place.{Place}
use Rattle.document.specs.declared.Recording.{Recording}
use Rattle.document.specs.Profile.{max_strip, Accepted}
use Rattle.document.specs.Places.{Within}
use Rattle.document.specs.Encoding.{start, strip_of}
use Rattle.document.specs.Plan.{planned, max_places}
use Rattle.document.specs.Message.{strip_field_length, message_length}
use Rattle.document.specs.Bundle.{lost_content, lost_content_length, bundle_length, longest_bundle, bundle_of}
use Rattle.document.proofs.Bounds.{strip_within}
use Rattle.document.proofs.Price.{few_places}
use Rattle.document.proofs.Chosen.{plan_within}
use Rattle.document.proofs.Message.{recording_length_lem, profile_short, Whole, message_length_lem}

pub lost_length : (f : Node) (r : Recording) → length (lost_content f r) ≡ lost_content_length
unfolding lost_content
lost_length f r = omega (arith, recording_length_lem r)

-- no bundle is longer
pub bundle_bound : (p : Profile) → Accepted p → (f : Node) → f.0 < p.n → bundle_length p f ≤ longest_bundle
bundle_bound p acc f h =
    let fields : length (planned p f) * strip_field_length p.s ≤ max_places * strip_field_length max_strip =
    mul-le-mul {n₁ = length (planned p f)} {m₁ = strip_field_length p.s} {n₂ = max_places}
    {m₂ = strip_field_length max_strip} (few_places p acc f h) (omega (arith, acc.short)) in
    omega (arith, profile_short p)

module _ (p : Profile) (acc : Accepted p) (x : List ℕ) (size : length x ≡ p.n * p.a * p.s) where
  pub strip_length : (q : Place) → Within p q → length (strip_of p x q) ≡ p.s
  unfolding strip_of start
  strip_length q w = slice_length x (start p q) p.s (omega (arith, strip_within p acc q w))

  module _ (r : Recording) (f : Node) (h : f.0 < p.n) where
    pub strips_whole : Each (Whole r (strip_of p x) p.s) (planned p f)
    strips_whole = each_map strip_length (plan_within p acc f h)

    pub bundle_length_lem : length (bundle_of p f r x) ≡ bundle_length p f
    unfolding bundle_of
    bundle_length_lem =
        message_length_lem p (lost_content f r) r (strip_of p x) strips_whole
        ∙ ap (λ (m : ℕ). message_length p m (length (planned p f))) (lost_length f r)
