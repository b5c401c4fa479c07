-- 'Profile numbers', and the edition, which K6 adds to them.
--
-- shape_accepted n k A         : the test whether n, k and A are accepted
-- constant_accepted t          : the test whether t is
-- strip_accepted S             : the test whether S is
-- edition_accepted e           : the test whether there is an edition e
-- profile_tests p              : the refusals 1, 2, 3 and 13 in their order
-- profile_of p                 : the numbers p as a profile
-- on_accepted p refuse go      : the head of a call: refuse r for the first of these refusals that applies to p; go
--                               with p as a profile if none does
-- checked_of p                 : the profile with the numbers p, or its first refusal
-- checked_answer c             : the same as the answer of any call
use Rattle.std.specs.Prelude.{Bool, ◌&&◌, not, List, [], ◌∷◌, ℕ, ◌-◌, ◌%◌, eqb, leb, ltb, Result, Ok, Err}
use Rattle.document.specs.declared.Numbers.{Numbers}
pub use Rattle.document.specs.Accepted.{Profile, max_nodes, max_rows, max_strip, ShapeAccepted, Accepted}
use Rattle.document.specs.declared.Refusal.{Refusal}
use Rattle.document.specs.declared.Refusal.TheVariants.{Shape, Constant, StripLength, Edition}
use Rattle.document.specs.Refusals.{Test, tried, Answer}

-- The same as tests.
unfoldable pub shape_accepted : ℕ → ℕ → ℕ → Bool
shape_accepted n k A =
    leb 1 k && (ltb k n && (leb 2 A && (leb A max_rows && (leb A (n - k) && (eqb (n % A) 0 && leb n max_nodes)))))

unfoldable pub constant_accepted : ℕ → Bool
constant_accepted t = leb 2 t && leb t 255

unfoldable pub strip_accepted : ℕ → Bool
strip_accepted S = leb 1 S && leb S max_strip

unfoldable pub edition_accepted : ℕ → Bool
edition_accepted e = leb 1 e && leb e 2

-- Refusals 1, 2 and 3, and K6: 'an edition other than 1 or 2 is 13, tried after 3'.
unfoldable pub profile_tests : Numbers → List Test
profile_tests p =
    record { refusal = Shape; holds = not (shape_accepted p.n p.k p.a) }
    ∷ record { refusal = Constant; holds = not (constant_accepted p.t) }
    ∷ record { refusal = StripLength; holds = not (strip_accepted p.s) }
    ∷ record { refusal = Edition; holds = not (edition_accepted p.edition) }
    ∷ []

abbrev pub profile_of : Numbers → Profile
profile_of p = record { n = p.n; k = p.k; a = p.a; t = p.t; s = p.s; edition = p.edition }

-- How every call begins that is given a profile's numbers: what it tries next is said of an accepted profile.
unfoldable pub on_accepted {ℓ} : {X : Type ℓ} → Numbers → (Refusal → X) → (Profile → X) → X
on_accepted p refuse go = tried (profile_tests p) refuse (go (profile_of p))

unfoldable pub checked_of : Numbers → Result Profile Refusal
checked_of p = on_accepted p Err Ok

-- 'For any answer that is an enum, a definition gives this paper's number and values for each case.' The number and the
-- value are those of the answer: 0 with 0, or the refusal's.
unfoldable pub checked_answer : Result Profile Refusal → Answer
checked_answer (Ok p) = Ok 0
checked_answer (Err r) = Err r
