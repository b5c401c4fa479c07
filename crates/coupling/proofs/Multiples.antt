-- The multiples of a strip, and the steps that take a strip out of its pair.
use mathlib.Core.Path.{◌≡◌, refl, sym, ap, ap₂, ◌∙◌}
use mathlib.Core.List.{List}
use Prim.Native.Nat.{ℕ, ◌<◌}
use lib.ListN.{length, get_or}
use Rattle.lists.specs.Listed.{listed}
use Rattle.lists.proofs.Listed.{listed_length, listed_at, listed_ext, listed_get_or}
use Rattle.gf256.specs.Field.{◌⊕◌, ◌⊗◌}
use Rattle.gf256.proofs.Ring.{one-mul}
use Rattle.strips.specs.Strips.{added_scaled}
use Rattle.strips.proofs.Added.{added_listed}
use Rattle.coupling.specs.Pairs.{multiple_of, uncoupled_strip}

-- the entries of a list
entries : (n : ℕ) (xs : List ℕ) → length xs ≡ n → listed n (λ b. get_or xs b 0) ≡ xs
entries n xs h = ap (λ (m : ℕ). listed m (λ b. get_or xs b 0)) (sym h) ∙ listed_get_or 0 xs

pub multiple_listed : (d n : ℕ) (f : ℕ → ℕ) → multiple_of d (listed n f) ≡ listed n (λ b. d ⊗ f b)
unfolding multiple_of
multiple_listed d n f =
    ap (λ (m : ℕ). listed m (λ b. d ⊗ get_or (listed n f) b 0)) (listed_length n f)
    ∙ listed_ext n _ _ (λ b h. ap (λ (v : ℕ). d ⊗ v) (listed_at n f b 0 h))

-- a strip taken once
pub multiple_one : (d : ℕ) (strip : List ℕ) → d ≡ 1 → ((b : ℕ) → get_or strip b 0 < 256) → strip ≡ multiple_of d strip
unfolding multiple_of
multiple_one d strip e small =
    sym
    (listed_ext (length strip) _ (λ b. get_or strip b 0)
    (λ b h. ap (λ (c : ℕ). c ⊗ get_or strip b 0) e ∙ one-mul (get_or strip b 0) (small b))
    ∙ entries (length strip) strip refl)

-- the steps of `uncouple`
pub uncoupled : (f d n : ℕ) (own partner : List ℕ) → length own ≡ n → length partner ≡ n
    → multiple_of d (added_scaled f 0 partner own) ≡ uncoupled_strip f d own partner
unfolding uncoupled_strip
uncoupled f d n own partner e g =
    ap (multiple_of d) sums ∙ multiple_listed d n sum ∙ ap (λ (m : ℕ). listed m (λ b. d ⊗ sum b)) (sym e)
  where
    sum : ℕ → ℕ
    sum b = get_or own b 0 ⊕ (f ⊗ get_or partner b 0)

    sums : added_scaled f 0 partner own ≡ listed n sum
    sums =
        ap₂ (added_scaled f 0) (sym (entries n partner g)) (sym (entries n own e))
        ∙ added_listed f n (λ b. get_or partner b 0) (λ b. get_or own b 0)
