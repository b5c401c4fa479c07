-- Pairs of an array changed in place, strip by strip: what stands after the pairs whose upper strip lies before e are
-- changed. It is the same walk for any change that leaves the strips on the diagonal as they are.
use mathlib.Core.Path.{◌≡◌, sym, ap, ap₂, ◌∙◌}
use mathlib.Core.Logic.{◌≢◌}
use mathlib.Core.Bool.{Bool, cond}
use mathlib.Core.List.{List}
use Prim.Native.Nat.{ℕ, ◌+◌, ◌*◌, ◌/◌, ◌%◌, ◌≤◌, ◌<◌}
use native.Mathlib.Decide.{ℕ_discrete, dec_lt}
use native.Mathlib.Omega.{arith}
use lib.Dec.{ltb}
use lib.ListN.{length, get_or}
use borrow.Author.Tests.{lt-ltb, le-ltb}
use Rattle.document.specs.declared.Profile.{Profile}
use Rattle.document.specs.Profile.{Accepted}
use Rattle.document.specs.Places.{place}
use Rattle.document.proofs.Bounds.{A>0, room, place_within, partner_within, strip_number}
use Rattle.coupling.specs.Pairs.{partner_number, Change, changed_strips, pair_changed}
use Rattle.coupling.proofs.Changed.{changed_length, changed_elsewhere, changed_upper, changed_lower}
use Rattle.coupling.proofs.Partners.{
  upper_of,
  partner_row,
  partner_column,
  partner_partner,
  partner_before,
  upper_itself,
  upper_partner,
  upper_is,
  upper_none,
  same_strip,
}

-- byte b of strip z, before and after
abbrev pub old : Profile → List ℕ → ℕ → ℕ → ℕ
old p x z b = get_or x (z * p.s + b) 0

abbrev pub new : Profile → Change → List ℕ → ℕ → ℕ → ℕ
new p g x z b = g (z % p.a) (z / p.a % p.a) (old p x z b) (old p x (partner_number p.a z) b)

module _ (p : Profile) (g : Change) (x : List ℕ) where
  open p use {n, a as A, s as S}

  -- and in between: after, where the upper strip of its pair lies before e
  unfoldable pub mixed : ℕ → ℕ → ℕ → ℕ
  mixed e z b = cond (ltb (upper_of A z) e) (new p g x z b) (old p x z b)

  pub record Mixed (e : ℕ) (y : List ℕ) : Type 0 where
    pub size : length y ≡ n * A * S
    pub holds : (z b : ℕ) → z < n * A → b < S → get_or y (z * S + b) 0 ≡ mixed e z b

  mixed_new : (e z b : ℕ) → upper_of A z < e → mixed e z b ≡ new p g x z b
  unfolding mixed
  mixed_new e z b h = ap (λ (c : Bool). cond c (new p g x z b) (old p x z b)) (lt-ltb (upper_of A z) e h)

  mixed_old : (e z b : ℕ) → e ≤ upper_of A z → mixed e z b ≡ old p x z b
  unfolding mixed
  mixed_old e z b h = ap (λ (c : Bool). cond c (new p g x z b) (old p x z b)) (le-ltb (upper_of A z) e h)

  -- a strip that is not of the pair of e is the same before e and after it
  mixed_next : (e z b : ℕ) → upper_of A z ≢ e → mixed e z b ≡ mixed (e + 1) z b
  mixed_next e z b d = go (dec_lt (upper_of A z) e)
    where
      go : Dec (upper_of A z < e) → mixed e z b ≡ mixed (e + 1) z b
      go (yes h) = mixed_new e z b h ∙ sym (mixed_new (e + 1) z b (omega arith))
      go (no h) = mixed_old e z b (omega arith) ∙ sym (mixed_old (e + 1) z b (omega arith))

  module _ (acc : Accepted p) where
    abbrev rows : 0 < A
    rows = A>0 p acc

    partner_in : (z : ℕ) → z < n * A → partner_number A z < n * A
    partner_in z h = strip_number p acc _ (partner_within p acc (place (z / A) (z % A)) (place_within p acc z h))

    -- ---- the first and the last state
    pub none_changed : length x ≡ n * A * S → Mixed 0 x
    none_changed size = record { size = size; holds = λ z b h l. sym (mixed_old 0 z b (omega arith)) }

    pub all_changed : (y : List ℕ) → Mixed (n * A) y → (z b : ℕ) → z < n * A → b < S
        → get_or y (z * S + b) 0 ≡ new p g x z b
    all_changed y M z b h l = M.holds z b h l ∙ mixed_new (n * A) z b (go (dec_lt (z % A) (z / A % A)))
      where
        go : Dec (z % A < z / A % A) → upper_of A z < n * A
        go (yes u) = rw (upper_itself A rows z u) h
        go (no u) = rw (upper_partner A rows z (omega arith)) (partner_in z h)

    -- ---- one strip more
    module _
        (small : (e : ℕ) → get_or x e 0 < 256)
        (stays : (i u v : ℕ) → u < 256 → g i i u v ≡ u)
        (e : ℕ)
        (e<n : e < n * A)
        (y : List ℕ)
        (M : Mixed e y)
      where
        -- where e is not the upper strip of a pair nothing changes
        passed : e / A % A ≤ e % A → Mixed (e + 1) y
        passed u = record { size = M.size; holds = λ z b h l. M.holds z b h l ∙ at z b (ℕ_discrete (upper_of A z) e) }
          where
            diagonal : (z b : ℕ) → z % A ≡ z / A % A → new p g x z b ≡ old p x z b
            diagonal z b d =
                ap (λ (i : ℕ). g i (z / A % A) (old p x z b) (old p x (partner_number A z) b)) d
                ∙ stays (z / A % A) (old p x z b) _ (small (z * S + b))

            at : (z b : ℕ) → Dec (upper_of A z ≡ e) → mixed e z b ≡ mixed (e + 1) z b
            at z b (no d) = mixed_next e z b d
            at z b (yes t) =
                mixed_old e z b (omega arith) ∙ sym (diagonal z b (upper_none A rows z e u t))
                ∙ sym (mixed_new (e + 1) z b (omega arith))

        -- where it is, its pair is changed: f is its partner
        module _ (u : e % A < e / A % A) where
          f : ℕ
          f = partner_number A e

          f<n : f < n * A
          unfolding f
          f<n = partner_in e e<n

          upper_e : upper_of A e ≡ e
          upper_e = upper_itself A rows e u

          upper_f : upper_of A f ≡ e
          unfolding f
          upper_f =
              upper_partner A rows f (omega (arith, partner_row A rows e, partner_column A rows e))
              ∙ partner_partner A rows e

          apart : f * S + S ≤ e * S
          unfolding f
          apart = room f e S (partner_before A rows e u)

          inside : e * S + S ≤ length y
          inside = omega (arith, room e (n * A) S e<n, M.size)

          -- both are as they were
          waits : (z b : ℕ) → z < n * A → b < S → upper_of A z ≡ e → get_or y (z * S + b) 0 ≡ old p x z b
          waits z b h l t = M.holds z b h l ∙ mixed_old e z b (omega arith)

          up : ℕ → ℕ → ℕ
          up = g (e % A) (e / A % A)

          low : ℕ → ℕ → ℕ
          low = g (e / A % A) (e % A)

          y' : List ℕ
          y' = changed_strips up low (e * S) (f * S) S y

          at_e : (b : ℕ) → b < S → get_or y' (e * S + b) 0 ≡ new p g x e b
          unfolding y' f up
          at_e b l =
              changed_upper up low (e * S) (f * S) S y apart inside b l
              ∙ ap₂ up (waits e b e<n l upper_e) (waits f b f<n l upper_f)

          at_f : (b : ℕ) → b < S → get_or y' (f * S + b) 0 ≡ new p g x f b
          unfolding y' f low
          at_f b l =
              changed_lower up low (e * S) (f * S) S y apart inside b l
              ∙ ap₂ low (waits f b f<n l upper_f) (waits e b e<n l upper_e)
              ∙ sym
              (ap₂ (λ (i l : ℕ). g i l (old p x f b) (old p x (partner_number A f) b)) (partner_row A rows e)
              (partner_column A rows e)
              ∙ ap (λ (z : ℕ). low (old p x f b) (old p x z b)) (partner_partner A rows e))

          elsewhere : (z b : ℕ) → b < S → z ≢ e → z ≢ f → get_or y' (z * S + b) 0 ≡ get_or y (z * S + b) 0
          unfolding y'
          elsewhere z b l d k =
              changed_elsewhere up low (e * S) (f * S) S y (z * S + b) (λ h m. d (same_strip S z e b l h m))
              (λ h m. k (same_strip S z f b l h m))

          changed : Mixed (e + 1) y'
          unfolding y' f
          changed = record {
            size = changed_length up low (e * S) (f * S) S y ∙ M.size;
            holds = λ z b h l. at z b h l (ℕ_discrete z e) (ℕ_discrete z f);
          }
            where
              arrives : (z b v : ℕ) → upper_of A z ≡ e → v ≡ new p g x z b → v ≡ mixed (e + 1) z b
              arrives z b v t k = k ∙ sym (mixed_new (e + 1) z b (omega arith))

              at : (z b : ℕ) → z < n * A → b < S → Dec (z ≡ e) → Dec (z ≡ f) → get_or y' (z * S + b) 0 ≡ mixed (e + 1) z b
              at z b h l (yes q) r = arrives z b _ (ap (upper_of A) q ∙ upper_e) (rw q (at_e b l))
              at z b h l (no d) (yes q) = arrives z b _ (ap (upper_of A) q ∙ upper_f) (rw q (at_f b l))
              at z b h l (no d) (no k) =
                  elsewhere z b l d k ∙ M.holds z b h l ∙ mixed_next e z b (λ t. k (upper_is A rows z e t d))

        pub next_changed : Mixed (e + 1) (pair_changed p g e y)
        unfolding pair_changed y' f up low
        next_changed = go (dec_lt (e % A) (e / A % A))
          where
            go : Dec (e % A < e / A % A) → Mixed (e + 1) (pair_changed p g e y)
            go (yes u) = rw (lt-ltb (e % A) (e / A % A) u) (changed u)
            go (no u) = rw (le-ltb (e % A) (e / A % A) (omega arith)) (passed (omega arith))
