-- The set at a position and the position of a set, case by case, at the code's numbers.
use mathlib.Core.Path.{◌≡◌, refl, sym, ap, ◌∙◌}
use mathlib.Core.List.{List, [], ◌∷◌}
use Prim.Native.Nat.{ℕ, zero, suc, ◌+◌, ◌-◌, ◌*◌, ◌≤◌, ◌<◌}
use native.Mathlib.Nat.{not-suc-le-zero}
use native.Mathlib.Numerals.{add-one, sub-one}
use native.Mathlib.Decide.{ℕ_discrete}
use native.Mathlib.Omega.{arith}
use lib.ListN.{length, get_or, set, drop, length-drop}
use lib.Seq.{drop-cons, drop-length}
use Rattle.lists.specs.Put.{put}
use Rattle.lists.proofs.Put.{put_put, put_none, set_put, put_whole}
use Rattle.ksets.specs.Sets.{sets, set_at, rank_of}
use Rattle.ksets.proofs.Pascal.{sets_bound}
use Rattle.ksets.proofs.Ranked.{no_more, set_with, set_without, set_length}
use Rattle.ksets.proofs.Ranked.{rank_none, rank_here, rank_other}

no_node : (b k pos : ℕ) → set_at b 0 k pos ≡ []
unfolding set_at
no_node b zero pos = refl
no_node b (suc k) pos = refl

with_first : (b n k pos : ℕ) → 0 < n → 0 < k → pos < sets (n - 1) (k - 1)
    → set_at b n k pos ≡ b ∷ set_at (b + 1) (n - 1) (k - 1) pos
with_first b zero k pos h l p = absurd (not-suc-le-zero h)
with_first b (suc n) zero pos h l p = absurd (not-suc-le-zero l)
with_first b (suc n) (suc k) pos h l p =
    let q : pos < sets n k = rw (sub-one, sub-one) at p in
    rw (sub-one, sub-one, add-one) (set_with b n k pos q)

without_first : (b n k pos : ℕ) → 0 < n → 0 < k → sets (n - 1) (k - 1) ≤ pos
    → set_at b n k pos ≡ set_at (b + 1) (n - 1) k (pos - sets (n - 1) (k - 1))
without_first b zero k pos h l p = absurd (not-suc-le-zero h)
without_first b (suc n) zero pos h l p = absurd (not-suc-le-zero l)
without_first b (suc n) (suc k) pos h l p =
    let q : sets n k ≤ pos = rw (sub-one, sub-one) at p in
    rw (sub-one, sub-one, add-one) (set_without b n k pos q)

-- one byte, and then the rest
put_cons : (d : List ℕ) (at v : ℕ) (vs : List ℕ) → at < length d → put (set d at v) (at + 1) vs ≡ put d at (v ∷ vs)
put_cons d at v vs h =
    ap (λ (l : List ℕ). put l (at + 1) vs) (set_put d at v h) ∙ put_put d at (omega arith) (v ∷ []) vs

-- what each of the four ways of writing a set leaves
module _ (d : List ℕ) (at b n k pos : ℕ) where
  pub wrote_none : k ≡ 0 → d ≡ put d at (set_at b n k pos)
  wrote_none e = rw (e, no_more, put_none)

  pub wrote_nowhere : n ≡ 0 → d ≡ put d at (set_at b n k pos)
  wrote_nowhere e = rw (e, no_node, put_none)

  module _ (h : 0 < n) (l : 0 < k) (c : ℕ) (e : c ≡ sets (n - 1) (k - 1)) where
    pub wrote_with : pos < c → at < length d → put (set d at b) (at + 1) (set_at (b + 1) (n - 1) (k - 1) pos)
        ≡ put d at (set_at b n k pos)
    wrote_with p r =
        put_cons d at b (set_at (b + 1) (n - 1) (k - 1) pos) r
        ∙ ap (put d at) (sym (with_first b n k pos h l (omega arith)))

    pub wrote_without : c ≤ pos → put d at (set_at (b + 1) (n - 1) k (pos - c)) ≡ put d at (set_at b n k pos)
    wrote_without p =
        ap (λ (v : ℕ). put d at (set_at (b + 1) (n - 1) k (pos - v))) e
        ∙ ap (put d at) (sym (without_first b n k pos h l (omega arith)))

-- the whole buffer
pub wrote_whole : (d : List ℕ) (n pos : ℕ) → pos < sets n (length d)
    → put d 0 (set_at 0 n (length d) pos) ≡ set_at 0 n (length d) pos
wrote_whole d n pos h = put_whole d _ (set_length 0 n (length d) pos h)

-- ---- the position of a set
pub rank_nowhere : (b n : ℕ) (xs : List ℕ) → n ≡ 0 → rank_of b n xs ≡ 0
unfolding rank_of
rank_nowhere b zero [] e = refl
rank_nowhere b zero (x ∷ xs) e = refl
rank_nowhere b (suc n) xs e = absurd (omega arith)

pub rank_end : (d : List ℕ) (at b n : ℕ) → at ≡ length d → rank_of b n (drop at d) ≡ 0
rank_end d at b n e = rw (e, drop-length, rank_none)

module _ (d : List ℕ) (at b : ℕ) (r : at < length d) where
  pub rank_with : (n : ℕ) → 0 < n → get_or d at 0 ≡ b
      → rank_of (b + 1) (n - 1) (drop (at + 1) d) ≡ rank_of b n (drop at d)
  rank_with zero h e = absurd (not-suc-le-zero h)
  rank_with (suc n) h e =
      rw (sub-one, add-one, add-one, drop-cons d at 0 r) (sym (rank_here b n _ _ e))

  pub rank_without : (n k : ℕ) → 0 < n → at + k ≡ length d → (get_or d at 0 ≡ b → ⊥)
      → sets (n - 1) (k - 1) + rank_of (b + 1) (n - 1) (drop at d) ≡ rank_of b n (drop at d)
  rank_without zero k h l e = absurd (not-suc-le-zero h)
  rank_without (suc n) k h l e =
      let q : k - 1 ≡ length (drop (suc at) d) = omega (arith, length-drop (suc at) d) in
      rw (sub-one, add-one, q, drop-cons d at 0 r) (sym (rank_other b n _ _ e))

pub rank_bound : (b n : ℕ) (xs : List ℕ) → n ≤ 24 → rank_of b n xs ≤ n * 2704156
rank_bound b zero xs h = omega (arith, rank_nowhere b 0 xs refl)
rank_bound b (suc n) [] h = omega (arith, rank_none b (suc n))
rank_bound b (suc n) (x ∷ xs) h =
    go (ℕ_discrete x b) (rank_bound (suc b) n xs (omega arith)) (rank_bound (suc b) n (x ∷ xs) (omega arith))
  where
    go : Dec (x ≡ b) → rank_of (suc b) n xs ≤ n * 2704156 → rank_of (suc b) n (x ∷ xs) ≤ n * 2704156
        → rank_of b (suc n) (x ∷ xs) ≤ suc n * 2704156
    go (yes e) i j = omega (arith, rank_here b n x xs e)
    go (no e) i j = omega (arith, rank_other b n x xs e, sets_bound n (length xs) (omega arith))
