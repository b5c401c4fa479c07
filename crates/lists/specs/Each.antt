-- What holds of each entry of a list, lists without repetition, and lists that rise.
--
-- Each R xs        : R holds of each entry of xs
-- Bytes x          : each entry of x is a byte
-- Distinct xs      : no entry of xs stands in it twice
-- Rises d xs       : d is less at each entry of xs than at any entry after it
-- occurrences j xs : how often j stands in xs
-- ListsOnce n P xs : xs lists each number below n for which P holds once, and nothing else
use Rattle.std.specs.Prelude.{◌≡◌, ◌≢◌, Bool, ◌&&◌, cond, List, [], ◌∷◌, ℕ, ◌+◌, ◌<◌, eqb, ltb, length, get_or}

pub data Each {X : Type 0} (R : X → Type 0) : List X → Type 0 where
  none : Each R []
  also : {x : X} {xs : List X} → R x → Each R xs → Each R (x ∷ xs)

abbrev pub Bytes : List ℕ → Type 0
Bytes x = (e : ℕ) → e < length x → get_or x e 0 < 256

pub data Distinct {X : Type 0} : List X → Type 0 where
  empty : Distinct []
  new : {x : X} {xs : List X} → Each (λ y. x ≢ y) xs → Distinct xs → Distinct (x ∷ xs)

pub data Rises {X : Type 0} (d : X → ℕ) : List X → Type 0 where
  ends : Rises d []
  less : {x : X} {xs : List X} → Each (λ y. d x < d y) xs → Rises d xs → Rises d (x ∷ xs)

unfoldable pub occurrences : ℕ → List ℕ → ℕ
occurrences j [] = 0
occurrences j (x ∷ xs) = cond (eqb j x) 1 0 + occurrences j xs

abbrev pub ListsOnce : ℕ → (ℕ → Bool) → List ℕ → Type 0
ListsOnce n P xs = (j : ℕ) → occurrences j xs ≡ cond (ltb j n && P j) 1 0
