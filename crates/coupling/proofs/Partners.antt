-- Strips by their number in memory's order: strip z is that of node z div A, row z mod A. Where its partner stands, and
-- what the code computes of the two.
use mathlib.Core.Path.{◌≡◌, refl, sym, ap, ap₂, ◌∙◌}
use mathlib.Core.Logic.{◌≢◌}
use mathlib.Core.Bool.{Bool, cond}
use mathlib.Core.List.{List}
use Prim.Native.Nat.{ℕ, ◌+◌, ◌-◌, ◌*◌, ◌/◌, ◌%◌, ◌≤◌, ◌<◌}
use native.Mathlib.Nat.{div-add-mod', mod-lt}
use native.Mathlib.Decide.{dec_lt}
use native.Mathlib.Omega.{arith}
use lib.Arith.{digits_div, digits_mod}
use lib.Dec.{ltb}
use borrow.Author.Tests.{lt-ltb, le-ltb}
use Rattle.document.specs.declared.Profile.{Profile}
use Rattle.document.specs.Places.{place, partner_of}
use Rattle.document.specs.Encoding.{start}
use Rattle.document.proofs.Bounds.{room}
use Rattle.coupling.specs.Pairs.{partner_number, Change, pair_changed}

-- The upper strip of the pair of strip z; a strip on the diagonal is its own.
unfoldable pub upper_of : ℕ → ℕ → ℕ
upper_of A z = cond (ltb (z % A) (z / A % A)) z (partner_number A z)

module _ (A : ℕ) (A>0 : 0 < A) where
  module _ (z : ℕ) where
    pub partner_row : partner_number A z % A ≡ z / A % A
    partner_row = digits_mod (z / A / A * A + z % A) (mod-lt (z / A) A>0)

    partner_node_lem : partner_number A z / A ≡ z / A / A * A + z % A
    partner_node_lem = digits_div (z / A / A * A + z % A) (mod-lt (z / A) A>0)

    pub partner_column : partner_number A z / A % A ≡ z % A
    partner_column = ap (λ (m : ℕ). m % A) partner_node_lem ∙ digits_mod (z / A / A) (mod-lt z A>0)

    pub partner_partner : partner_number A (partner_number A z) ≡ z
    partner_partner =
        ap₂ (λ (g i : ℕ). (g * A + i) * A + partner_number A z / A % A)
        (ap (λ (m : ℕ). m / A) partner_node_lem ∙ digits_div (z / A / A) (mod-lt z A>0)) partner_row
        ∙ ap₂ (λ (j i : ℕ). j * A + i) (div-add-mod' (z / A) A) partner_column ∙ div-add-mod' z A

    -- the partner of an upper strip lies before it
    pub partner_before : z % A < z / A % A → partner_number A z < z
    partner_before h =
        let l : z / A / A * A + z % A < z / A = omega (arith, div-add-mod' (z / A) A) in
        let r : (z / A / A * A + z % A) * A + A ≤ z / A * A = room (z / A / A * A + z % A) (z / A) A l in
        omega (arith, div-add-mod' z A, mod-lt (z / A) A>0)

    pub upper_itself : z % A < z / A % A → upper_of A z ≡ z
    unfolding upper_of
    upper_itself h = ap (λ (c : Bool). cond c z (partner_number A z)) (lt-ltb _ _ h)

    pub upper_partner : z / A % A ≤ z % A → upper_of A z ≡ partner_number A z
    unfolding upper_of
    upper_partner h = ap (λ (c : Bool). cond c z (partner_number A z)) (le-ltb _ _ h)

  -- a strip whose upper strip is e is e or its partner
  pub upper_is : (z e : ℕ) → upper_of A z ≡ e → z ≢ e → z ≡ partner_number A e
  upper_is z e h d = go (dec_lt (z % A) (z / A % A))
    where
      go : Dec (z % A < z / A % A) → z ≡ partner_number A e
      go (yes u) = absurd (d (sym (upper_itself z u) ∙ h))
      go (no u) = sym (partner_partner z) ∙ ap (partner_number A) (sym (upper_partner z (omega arith)) ∙ h)

  -- and where e has no strip above the diagonal, it is on the diagonal
  pub upper_none : (z e : ℕ) → e / A % A ≤ e % A → upper_of A z ≡ e → z % A ≡ z / A % A
  upper_none z e u t = go (dec_lt (z % A) (z / A % A)) (dec_lt (z / A % A) (z % A))
    where
      go : Dec (z % A < z / A % A) → Dec (z / A % A < z % A) → z % A ≡ z / A % A
      go (yes h) k =
          let q : z ≡ e = sym (upper_itself z h) ∙ t in
          absurd (omega (arith, ap (λ (m : ℕ). m % A) q, ap (λ (m : ℕ). m / A % A) q))
      go (no h) (yes k) =
          let q : partner_number A z ≡ e = sym (upper_partner z (omega arith)) ∙ t in
          let r : e % A ≡ z / A % A = ap (λ (m : ℕ). m % A) (sym q) ∙ partner_row z in
          let s : e / A % A ≡ z % A = ap (λ (m : ℕ). m / A % A) (sym q) ∙ partner_column z in
          absurd (omega arith)
      go (no h) (no k) = omega arith

-- a byte of the strip w is none of another strip
pub same_strip : (S z w b : ℕ) → b < S → w * S ≤ z * S + b → z * S + b < w * S + S → z ≡ w
same_strip S z w b l h m =
    let r : z * S + b - w * S < S = omega arith in
    let q : z * S + b ≡ w * S + (z * S + b - w * S) = omega arith in
    sym (digits_div z l) ∙ ap (λ (v : ℕ). v / S) q ∙ digits_div w r

-- ---- what the code computes of a strip
module _ (p : Profile) (z : ℕ) where
  open p use {a as A, s as S}

  pub strip_start_lem : start p (place (z / A) (z % A)) ≡ z * S
  unfolding start
  strip_start_lem = ap (λ (m : ℕ). m * S) (div-add-mod' z A)

  pub partner_start : start p (partner_of A (place (z / A) (z % A))) ≡ partner_number A z * S
  unfolding start
  partner_start = refl

  pub no_upper : z / A % A ≤ z % A → (g : Change) (x : List ℕ) → pair_changed p g z x ≡ x
  unfolding pair_changed
  no_upper h g x = simp (le-ltb _ _ h)
