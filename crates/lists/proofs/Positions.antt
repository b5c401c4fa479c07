-- Where a number stands in a list: its first entry that is the number.
use Rattle.std.proofs.Common.{◌≡◌, ◌≢◌, ℕ, suc, ◌≤◌, ◌<◌, ◌==◌, List, ◌∷◌, length, get_or, refl, true, not, arith}
use Rattle.std.specs.List.{position}
use Rattle.std.specs.Option.{unwrap_or}
use Rattle.std.proofs.lemmas.List.Sums.{prefix_len-le-length, passes_at_first, fails_before_first}
use borrow.Author.Tests.{eq-eqb, ne_eqb, eqb-true}
use Rattle.lists.specs.Positions.{position_in}

module _ (x : ℕ) (xs : List ℕ) (j : ℕ) where
  pub position_here : x ≡ j → position_in (x ∷ xs) j ≡ 0
  unfolding position_in
  position_here e = rw (eq-eqb x j e) refl

  pub position_later : x ≢ j → position_in (x ∷ xs) j ≡ suc (position_in xs j)
  unfolding position_in
  position_later d = rw (ne_eqb x j d) (omega arith)

module _ (xs : List ℕ) (j : ℕ) where
  pub position_le : position_in xs j ≤ length xs
  unfolding position_in
  position_le = prefix_len-le-length _ xs

  -- What is found is the number.
  pub position_back : position_in xs j < length xs → get_or xs (position_in xs j) 0 ≡ j
  unfolding position_in
  position_back h = eqb-true _ j (passes_at_first (λ x. x == j) xs 0 h)

  -- A number that is an entry is found.
  pub position_within : (i : ℕ) → i < length xs → get_or xs i 0 ≡ j → position_in xs j < length xs
  unfolding position_in
  position_within i l e =
      let found : (get_or xs i 0 == j) ≡ true = eq-eqb _ j e in
      grind (arith, fails_before_first (λ (x : ℕ). x == j) xs i 0)

  -- What std's search finds, or the length where it finds nothing.
  pub position_found : unwrap_or (position (λ (x : ℕ). x == j) xs) (length xs) ≡ position_in xs j
  unfolding position_in
  position_found = grind (arith, prefix_len-le-length (λ (x : ℕ). not (x == j)) xs)
