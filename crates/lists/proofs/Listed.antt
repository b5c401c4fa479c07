-- The laws of `listed`: its length, its entries, equality entry by entry, a list in two parts, its front, and what
-- holds of all entries.
use mathlib.Core.Path.{◌≡◌, refl, sym, ap, ap₂, ◌∙◌}
use mathlib.Core.List.{List, [], ◌∷◌, ◌++◌}
use Prim.Native.Nat.{ℕ, zero, suc, ◌+◌, ◌≤◌, ◌<◌, suc-le-suc}
use native.Mathlib.Nat.{le_of_suc-le-suc, not-suc-le-zero, zero-lt-suc, zero-add, suc-add}
use lib.ListN.{length, get_or, take, replicate}
use lib.Seq.{ext_get_or}
use Rattle.lists.specs.Listed.{listed}

module _ {X : Type 0} where
  pub listed_length : (n : ℕ) (f : ℕ → X) → length (listed n f) ≡ n
  unfolding listed
  listed_length zero f = refl
  listed_length (suc n) f = ap suc (listed_length n (λ e. f (suc e)))

  pub listed_at : (n : ℕ) (f : ℕ → X) (e : ℕ) (d : X) → e < n → get_or (listed n f) e d ≡ f e
  unfolding listed
  listed_at zero f e d h = absurd (not-suc-le-zero h)
  listed_at (suc n) f zero d h = refl
  listed_at (suc n) f (suc e) d h = listed_at n (λ e. f (suc e)) e d (le_of_suc-le-suc h)

  pub listed_ext : (n : ℕ) (f g : ℕ → X) → ((e : ℕ) → e < n → f e ≡ g e) → listed n f ≡ listed n g
  unfolding listed
  listed_ext zero f g h = refl
  listed_ext (suc n) f g h =
      ap₂ (λ (a : X) (l : List X). a ∷ l) (h 0 (zero-lt-suc n))
      (listed_ext n (λ e. f (suc e)) (λ e. g (suc e)) (λ e l. h (suc e) (suc-le-suc l)))

  pub listed_add : (m n : ℕ) (f : ℕ → X) → listed (m + n) f ≡ listed m f ++ listed n (λ e. f (m + e))
  unfolding listed
  listed_add zero n f =
      ap (λ (k : ℕ). listed k f) (zero-add n) ∙ listed_ext n f (λ e. f (0 + e)) (λ e h. ap f (sym (zero-add e)))
  listed_add (suc m) n f =
      ap (λ (k : ℕ). listed k f) (suc-add m n)
      ∙ ap (λ (l : List X). f 0 ∷ l)
      (listed_add m n (λ e. f (suc e))
      ∙ ap (λ (l : List X). listed m (λ e. f (suc e)) ++ l)
      (listed_ext n (λ e. f (suc (m + e))) (λ e. f (suc m + e)) (λ e h. ap f (sym (suc-add m e)))))

  -- the front of a listed list
  pub listed_take : (m n : ℕ) (f : ℕ → X) → m ≤ n → take m (listed n f) ≡ listed m f
  unfolding listed
  listed_take zero n f h = refl
  listed_take (suc m) zero f h = absurd (not-suc-le-zero h)
  listed_take (suc m) (suc n) f h =
      ap (λ (l : List X). f 0 ∷ l) (listed_take m n (λ e. f (suc e)) (le_of_suc-le-suc h))

  -- a list of n entries, each by f, is listed
  pub listed_is : (n : ℕ) (f : ℕ → X) (d : X) (xs : List X) → length xs ≡ n → ((e : ℕ) → e < n → get_or xs e d ≡ f e)
      → xs ≡ listed n f
  listed_is n f d xs size h =
      ext_get_or d xs (listed n f) (size ∙ sym (listed_length n f))
      (λ e l. let below : e < n = rw size at l in h e below ∙ sym (listed_at n f e d below))

  -- a list is its entries, listed
  pub listed_get_or : (d : X) (xs : List X) → listed (length xs) (λ e. get_or xs e d) ≡ xs
  listed_get_or d xs =
      ext_get_or d (listed (length xs) (λ e. get_or xs e d)) xs (listed_length (length xs) (λ e. get_or xs e d))
      (λ e l. listed_at (length xs) (λ e. get_or xs e d) e d (rw listed_length at l))

-- ---- what holds of each entry, and of what is read past the end, holds wherever one looks
module _ {X : Type 0} (R : X → Type 0) (d : X) (past : R d) where
  pub get_or_holds : (xs : List X) → ((i : ℕ) → i < length xs → R (get_or xs i d)) → (i : ℕ) → R (get_or xs i d)
  get_or_holds [] h i = past
  get_or_holds (x ∷ xs) h zero = h 0 (zero-lt-suc (length xs))
  get_or_holds (x ∷ xs) h (suc i) = get_or_holds xs (λ e l. h (suc e) (suc-le-suc l)) i

  pub listed_holds : (n : ℕ) (f : ℕ → X) → ((e : ℕ) → R (f e)) → (i : ℕ) → R (get_or (listed n f) i d)
  listed_holds n f h =
      get_or_holds (listed n f) (λ i l. let below : i < n = rw listed_length at l in rw (listed_at n f i d below) (h i))

  pub replicate_holds : (n : ℕ) (v : X) → R v → (i : ℕ) → R (get_or (replicate n v) i d)
  replicate_holds zero v h i = past
  replicate_holds (suc n) v h zero = h
  replicate_holds (suc n) v h (suc i) = replicate_holds n v h i
