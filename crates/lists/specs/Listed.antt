-- Lists by a function of the index.
--
-- listed n f       : f 0, f 1, .. f (n - 1)
-- patched at m f x : x with f b in the place of its entry at + b, for each b below m
-- rising n P       : the numbers below n for which P holds, rising
-- along n g P      : those of g 0, g 1, .. g (n - 1) for which P holds, in this order
-- around n b P     : the numbers below n for which P holds, from b on rising and wrapping past n - 1 to 0
-- all n P          : P holds for each number below n
use Rattle.std.specs.Prelude.{Bool, true, ◌&&◌, cond, List, [], ◌∷◌, ◌++◌, map, ℕ, zero, suc, ◌+◌, ◌-◌, ◌%◌, leb, ltb, length, get_or}

unfoldable pub listed {ℓ} : {X : Type ℓ} → ℕ → (ℕ → X) → List X
listed zero f = []
listed (suc n) f = f 0 ∷ listed n (λ e. f (suc e))

unfoldable pub patched : ℕ → ℕ → (ℕ → ℕ) → List ℕ → List ℕ
patched at m f x = listed (length x) (λ p. cond (leb at p && ltb p (at + m)) (f (p - at)) (get_or x p 0))

unfoldable pub rising : ℕ → (ℕ → Bool) → List ℕ
rising zero P = []
rising (suc n) P = rising n P ++ cond (P n) (n ∷ []) []

unfoldable pub along : ℕ → (ℕ → ℕ) → (ℕ → Bool) → List ℕ
along n g P = map g (rising n (λ i. P (g i)))

abbrev pub around : ℕ → ℕ → (ℕ → Bool) → List ℕ
around n b P = along n (λ i. (b + i) % n) P

unfoldable pub all : ℕ → (ℕ → Bool) → Bool
all zero P = true
all (suc n) P = all n P && P n
