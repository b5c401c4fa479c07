-- Demand 1 for a call that is given a profile's numbers: the refusals 1, 2, 3 and 13, and then those of the call.
--
-- profile_sentences p : the lines for a profile's numbers
-- profile_lines       : the numbers of these lines
-- Demand1Profile p   : the outcome of looking at the numbers p alone. Shown in proofs/Profile.antt: demand_1_profile
-- Demand1For p tests table lines before outcome : a call that is given the numbers p refuses by these lines, and then
--                      by its own, for an accepted profile. Shown of every such call in proofs/Profile.antt: call_for
use Rattle.std.specs.Prelude.{◌≡◌, ◌≢◌, ◌⊎◌, List, [], ◌∷◌, ◌++◌, ℕ, ◌≤◌, ◌<◌, Ok}
use Rattle.document.specs.declared.Numbers.{Numbers}
use Rattle.document.specs.declared.Profile.{Profile}
use Rattle.document.specs.declared.Refusal.TheVariants.{Shape, Constant, StripLength, Edition}
use Rattle.document.specs.Refusals.{Test, Answer}
use Rattle.document.specs.Profile.{ShapeAccepted, Accepted, profile_tests, profile_of, checked_of, checked_answer}
use Rattle.demands.specs.Tables.{Sentence, Demand1Of}

-- 1: 'n, k or A not accepted'. 2: 't not in 2..255'. 3: 'S is 0 or above 512'. K6: 'an edition other than 1 or 2 is 13,
-- tried after 3'.
unfoldable pub profile_sentences : Numbers → List Sentence
profile_sentences p =
    record { refusal = Shape; says = ShapeAccepted p.n p.k p.a → ⊥ }
    ∷ record { refusal = Constant; says = (2 ≤ p.t) × (p.t ≤ 255) → ⊥ }
    ∷ record { refusal = StripLength; says = (p.s ≡ 0) ⊎ (512 < p.s) }
    ∷ record { refusal = Edition; says = (p.edition ≢ 1) × (p.edition ≢ 2) }
    ∷ []

abbrev pub profile_lines : List (ℕ × ℕ)
profile_lines = (1, 0) ∷ (2, 0) ∷ (3, 0) ∷ (13, 0) ∷ []

-- `Profile::new`, with which every call begins that is given a profile's numbers: it refuses by these lines and is lent
-- nothing; what it hands out is the profile with these numbers, accepted.
pub record Demand1Profile (p : Numbers) : Type 1 where
  pub refuses : Demand1Of {X = List ℕ} (profile_tests p) (profile_sentences p) profile_lines []
      (checked_answer (checked_of p), [])
  pub passes : (profile : Profile) → checked_of p ≡ Ok profile → (profile ≡ profile_of p) × Accepted profile

-- For a call that is given a profile's numbers p: its tests, its table and its lines past those of the profile.
abbrev pub Demand1For : {X : Type 0} → Numbers → (Profile → List Test) → (Profile → List Sentence) → List (ℕ × ℕ)
    → X → Answer × X → Type 1
Demand1For p tests table lines before outcome =
    Demand1Of (profile_tests p ++ tests (profile_of p)) (profile_sentences p ++ table (profile_of p))
    (profile_lines ++ lines) before outcome
