-- The laws of the steps: a list filled from its front, a multiple of a line added, a step of the whole square.
use mathlib.Core.Path.{◌≡◌, refl, sym, ap, ap₂, ◌∙◌}
use mathlib.Core.Bool.{cond}
use mathlib.Core.List.{List, ◌++◌}
use Prim.Native.Nat.{ℕ, zero, suc, ◌+◌, ◌-◌, ◌≤◌, ◌<◌}
use native.Mathlib.Numerals.{add-one}
use native.Mathlib.Decide.{ℕ_discrete}
use native.Mathlib.Nat.{not-suc-le-zero}
use native.Mathlib.Omega.{arith}
use lib.Dec.{eqb}
use Rattle.std.proofs.lemmas.List.{take-append-drop, get_or_append_left, set-append_left}
use lib.ListN.{length, get_or, set, take, drop, replicate, length-set, length-replicate, get_or-replicate}
use lib.Seq.{ext_get_or, get_or-set_same, get_or-set_other}
use borrow.Author.Tests.{eq-eqb, ne_eqb}
use Rattle.lists.specs.Listed.{listed}
use Rattle.lists.proofs.Listed.{listed_length, listed_at}
use Rattle.strips.specs.Strips.{added_scaled}
use Rattle.strips.proofs.Added.{added_none}
use Rattle.square.specs.declared.Line.{Line}
use Rattle.square.specs.Steps.{no_line, line_at, filled, stepped, unit_line}

-- what is left of n shrinks as i grows
pub left_next : (i n : ℕ) → i < n → n - i ≡ suc (n - (i + 1))
left_next i n h = omega arith

-- ---- a list whose first n entries are replaced
module _ {X : Type 0} (f : ℕ → X) (l : List X) where
  pub filled_none : l ≡ filled f l 0
  unfolding filled
  filled_none = refl

  pub filled_next : (n : ℕ) → set (filled f l n) n (f n) ≡ filled f l (n + 1)
  unfolding filled
  filled_next n = rw (add-one n)

  pub filled_length : (n : ℕ) → length (filled f l n) ≡ length l
  unfolding filled
  filled_length zero = refl
  filled_length (suc n) = length-set (filled f l n) n (f n) ∙ filled_length n

  pub filled_rest : (n i : ℕ) (d : X) → n ≤ i → get_or (filled f l n) i d ≡ get_or l i d
  unfolding filled
  filled_rest zero i d h = refl
  filled_rest (suc n) i d h =
      get_or-set_other (filled f l n) n i (f n) d (omega arith) ∙ filled_rest n i d (omega arith)

  pub filled_at : (n i : ℕ) (d : X) → i < n → n ≤ length l → get_or (filled f l n) i d ≡ f i
  unfolding filled
  filled_at zero i d h k = absurd (not-suc-le-zero h)
  filled_at (suc n) i d h k = go (ℕ_discrete i n) (filled_at n i d)
    where
      go : Dec (i ≡ n) → (i < n → n ≤ length l → get_or (filled f l n) i d ≡ f i)
          → get_or (set (filled f l n) n (f n)) i d ≡ f i
      go (yes e) r = rw e (get_or-set_same (filled f l n) n (f n) d (omega (arith, filled_length n)))
      go (no e) r = get_or-set_other (filled f l n) n i (f n) d e ∙ r (omega arith) (omega arith)

  -- a list that is filled to its end
  pub filled_all : (n : ℕ) (d : X) → length l ≡ n → filled f l n ≡ listed n f
  filled_all n d e =
      ext_get_or d (filled f l n) (listed n f) (filled_length n ∙ e ∙ sym (listed_length n f))
      (λ i h.
      let k : i < n = omega (arith, filled_length n) in
      filled_at n i d k (omega arith) ∙ sym (listed_at n f i d k))

-- what is written turns on f below n alone
pub filled_ext : {X : Type 0} (f g : ℕ → X) (l : List X) (n : ℕ) → ((i : ℕ) → i < n → f i ≡ g i)
    → filled f l n ≡ filled g l n
unfolding filled
filled_ext f g l zero h = refl
filled_ext f g l (suc n) h =
    rw (filled_ext f g l n (λ i k. h i (omega arith)), h n (omega arith))

-- ---- one entry that is written
pub set_at : (l : List ℕ) (r v i : ℕ) → r < length l → get_or (set l r v) i 0 ≡ cond (eqb i r) v (get_or l i 0)
set_at l r v i h = go (ℕ_discrete i r)
  where
    go : Dec (i ≡ r) → get_or (set l r v) i 0 ≡ cond (eqb i r) v (get_or l i 0)
    go (yes e) = rw (eq-eqb i r e, e) (get_or-set_same l r v 0 h)
    go (no e) = rw (ne_eqb i r e) (get_or-set_other l r i v 0 e)

pub unit_line_set : (m r : ℕ) → r < m → set (replicate m 0) r 1 ≡ unit_line m r
unfolding unit_line
unit_line_set m r h =
    let zeros : List ℕ = replicate m 0 in
    let size : length (set zeros r 1) ≡ m = length-set zeros r 1 ∙ length-replicate m 0 in
    ext_get_or 0 (set zeros r 1) (unit_line m r) (size ∙ sym (listed_length m _))
    (λ i l.
    let k : i < m = omega (arith, size) in
    set_at zeros r 1 i (omega (arith, length-replicate {A = ℕ} m 0))
    ∙ ap (λ (x : ℕ). cond (eqb i r) 1 x) (get_or-replicate m i 0 0 k) ∙ sym (listed_at m _ i 0 k))

-- ---- a step of the square
module _ (c : ℕ → ℕ) (p : ℕ) (s : List Line) (rows : ℕ) where
  pub stepped_length : length (stepped c p s rows) ≡ length s
  unfolding stepped
  stepped_length = filled_length _ s rows

  pub stepped_at : (i : ℕ) → i < rows → rows ≤ length s
      → line_at (stepped c p s rows) i ≡ added_scaled (c i) 0 (line_at s p) (line_at s i)
  unfolding stepped
  stepped_at i h k = ap (λ (x : Line). x.c) (filled_at _ s rows i no_line h k)

  pub stepped_rest : (i : ℕ) → rows ≤ i → line_at (stepped c p s rows) i ≡ line_at s i
  unfolding stepped
  stepped_rest i h = ap (λ (x : Line). x.c) (filled_rest _ s rows i no_line h)

-- ---- the same, line by line: of a front of the lines the first i are stepped
module _ (c : ℕ → ℕ) (p : ℕ) (s : List Line) where
  pub stepped_none : (rows : ℕ) → take rows s ++ drop rows s ≡ stepped c p s 0
  unfolding stepped filled
  stepped_none rows = take-append-drop rows s

  module _ (i : ℕ) (front rest : List Line) (h : i < length front) (e : front ++ rest ≡ stepped c p s i) where
    as_it_was : line_at front i ≡ line_at s i
    as_it_was =
        ap (λ (x : Line). x.c) (sym (get_or_append_left front rest no_line i h))
        ∙ ap (λ (x : List Line). line_at x i) e ∙ stepped_rest c p s i i (omega arith)

    pub stepped_next : {w : Line} → w ≡ record { c = added_scaled (c i) 0 (line_at s p) (line_at front i) }
        → set front i w ++ rest ≡ stepped c p s (i + 1)
    unfolding stepped
    stepped_next {w} q =
        sym (set-append_left front rest i w h)
        ∙ ap₂ (λ (x : List Line) (y : Line). set x i y) e
        (q ∙ ap (λ (x : List ℕ). record { c = added_scaled (c i) 0 (line_at s p) x }) as_it_was)
        ∙ filled_next (λ k. record { c = added_scaled (c k) 0 (line_at s p) (line_at s k) }) s i

    -- a line that is left alone, since 0 times a line is added to it
    pub stepped_skip : c i ≡ 0 → set front i (get_or front i no_line) ++ rest ≡ stepped c p s (i + 1)
    stepped_skip z =
        stepped_next (ap (λ (x : List ℕ). record { c = x }) (sym (added_none (c i) (line_at s p) (line_at front i) z)))

-- the multipliers count below `rows` alone
pub stepped_ext : (c e : ℕ → ℕ) (p : ℕ) (s : List Line) (rows : ℕ) → ((i : ℕ) → i < rows → c i ≡ e i)
    → stepped c p s rows ≡ stepped e p s rows
unfolding stepped
stepped_ext c e p s rows h =
    filled_ext _ _ s rows
    (λ i k. ap (λ (f : ℕ). record { c = added_scaled f 0 (line_at s p) (line_at s i) }) (h i k))
