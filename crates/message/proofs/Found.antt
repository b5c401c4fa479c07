-- What a search over the numbers from 0 on finds: whether all pass a test, and the first that fails it.
use mathlib.Core.Path.{◌≡◌, refl, sym, ap, ◌∙◌}
use mathlib.Core.Bool.{Bool, true, false}
use mathlib.Core.List.{List, [], ◌∷◌, ◌++◌}
use Prim.Native.Nat.{ℕ, zero, suc, ◌+◌, ◌≤◌, ◌<◌, zero-le}
use native.Mathlib.Numerals.{add-one}
use native.Mathlib.Omega.{arith}
use Rattle.std.proofs.Common.{Option, None, Some, MatchOption}
use Rattle.std.specs.List.{range_with_len, list_all}
use Rattle.std.proofs.Math.Bool.{and-true}
use Rattle.std.proofs.lemmas.List.{map-id}
use Rattle.std.proofs.lemmas.List.FromFn.{map-range_with_len_more}
use Rattle.std.proofs.lemmas.List.Folds.{list_all-append}
use Rattle.lists.specs.Listed.{all}
use Rattle.message.specs.Reader.{FirstNot}

module _ (T : ℕ → Bool) where
  last : (n : ℕ) → range_with_len 0 (suc n) ≡ range_with_len 0 n ++ (n ∷ [])
  last n =
      ap (range_with_len 0) (sym (add-one n)) ∙ sym (map-id (range_with_len 0 (n + 1)))
      ∙ map-range_with_len_more (λ x. x) 0 n n (omega arith)
      ∙ ap (λ (l : List ℕ). l ++ (n ∷ [])) (map-id (range_with_len 0 n))

  pub all_listed : (n : ℕ) → list_all T (range_with_len 0 n) ≡ all n T
  unfolding all
  all_listed zero = refl
  all_listed (suc n) =
      ap (list_all T) (last n) ∙ list_all-append T (range_with_len 0 n) (n ∷ []) ∙ rw (all_listed n, and-true)

  pub first_not : (n : ℕ) (found : Option ℕ)
      → MatchOption found ((k : ℕ) → 0 ≤ k → k < n → T k ≡ true)
      (λ i. (0 ≤ i) × (i < n) × (T i ≡ false) × ((k : ℕ) → 0 ≤ k → k < i → T k ≡ true))
      → FirstNot T n found
  first_not n None h = λ e l. h e zero-le l
  first_not n (Some i) h = (h.1, h.2, λ e l. h.3 e zero-le l)
