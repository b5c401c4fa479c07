-- What `pick` gives, where the decision is known.
use mathlib.Core.Path.{◌≡◌, refl}
use Rattle.algebra.specs.Pick.{pick}

-- Where P holds, the first value.
pub pick_yes {ℓ ℓ'} : {P : Type ℓ} {A : Type ℓ'} (d : Dec P) (a b : A) → P → pick d a b ≡ a
pick_yes (yes p) a b h = refl
pick_yes (no n) a b h = absurd (n h)

-- Where P does not hold, the second.
pub pick_no {ℓ ℓ'} : {P : Type ℓ} {A : Type ℓ'} (d : Dec P) (a b : A) → (P → ⊥) → pick d a b ≡ b
pick_no (yes p) a b h = absurd (h p)
pick_no (no n) a b h = refl
