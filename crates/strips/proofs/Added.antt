-- The laws of strips added: once, a multiple of a strip, and a multiple of a strip to another, byte by byte.
use mathlib.Core.Path.{◌≡◌, refl, sym, ap, ap₂, ◌∙◌}
use mathlib.Core.Bool.{Bool, true, false, ◌&&◌, cond}
use mathlib.Core.List.{List}
use Prim.Native.Nat.{ℕ, zero, suc, ◌+◌, ◌-◌, ◌/◌, ◌%◌, ◌^◌, ◌≤◌, ◌<◌, zero-le}
use native.Mathlib.Nat.{zero-add, pow-suc}
use native.Mathlib.Decide.{dec_lt}
use native.Mathlib.Omega.{arith}
use lib.Dec.{leb, ltb}
use lib.ListN.{length, get_or, set, length-set, get_or-eq_default}
use lib.Seq.{ext_get_or}
use borrow.Author.Tests.{lt-ltb, le-ltb}
use Rattle.lists.specs.Listed.{listed, patched}
use Rattle.lists.proofs.Listed.{listed_length, listed_at, listed_ext}
use Rattle.lists.proofs.Patched.{patched_ext, patched_length, patched_in, patched_out}
use Rattle.lists.proofs.Patched.{patched_none, patched_next, patched_more}
use Rattle.gf256.specs.Field.{◌⊕◌, ◌⊗◌, double}
use Rattle.gf256.proofs.Ring.{add-zero, add_assoc, mul-zero, zero-mul, one-mul, mul_turn}
use Rattle.strips.specs.Strips.{strip_at, added_by, added_scaled, added_strip, doubled_strip, doubled_while, used_up}

-- ---- the loop that adds: y is x with g of each of the first b bytes of src added
pub record Adding (g : ℕ → ℕ) (at : ℕ) (src x : List ℕ) (b : ℕ) (y : List ℕ) : Type 0 where
  pub passed : b ≤ length src
  pub size : length y ≡ length x
  pub holds : y ≡ patched at b (λ b. get_or x (at + b) 0 ⊕ g (get_or src b 0)) x

module _ {g : ℕ → ℕ} {at : ℕ} {src x : List ℕ} where
  pub adding_none : Adding g at src x 0 x
  adding_none = record { passed = zero-le; size = refl; holds = patched_none at _ x }

  module _ {b : ℕ} {y : List ℕ} (w : Adding g at src x b y) where
    -- v is what g gives of the next byte
    pub adding_more : b < length src → at + length src ≤ length x → {v : ℕ} → v ≡ g (get_or src b 0)
        → Adding g at src x (b + 1) (set y (at + b) (get_or y (at + b) 0 ⊕ v))
    adding_more h fits e = record {
      passed = omega arith;
      size = simp length-set w.size;
      holds = patched_more at b _ x y w.holds (omega arith) _
          (ap₂ ◌⊕◌ (patched_next at b _ x y w.holds (omega arith)) e);
    }

    pub adding_all : length src ≤ b → y ≡ added_by g at src x
    adding_all h =
        let e : b ≡ length src = omega arith in
        w.holds ∙ ap (λ (m : ℕ). patched at m (λ b. get_or x (at + b) 0 ⊕ g (get_or src b 0)) x) e

-- a part written anew
patched_again : (at m : ℕ) (f g : ℕ → ℕ) (x : List ℕ) → patched at m f (patched at m g x) ≡ patched at m f x
unfolding patched
patched_again at m f g x =
    ap (λ (n : ℕ). listed n (λ p. cond (inside p) (f (p - at)) (get_or (patched at m g x) p 0)))
    (patched_length at m g x)
    ∙ listed_ext (length x) _ _ (λ p h.
    ap (λ (v : ℕ). cond (inside p) (f (p - at)) v) (listed_at (length x) _ p 0 h)
    ∙ last (inside p) (f (p - at)) (g (p - at)) (get_or x p 0))
  where
    inside : ℕ → Bool
    inside p = leb at p && ltb p (at + m)

    last : (b : Bool) (u v w : ℕ) → cond b u (cond b v w) ≡ cond b u w
    last true u v w = refl
    last false u v w = refl

-- adding once is adding with the factor 1
pub added_once : (at : ℕ) (src x : List ℕ) → ((b : ℕ) → get_or src b 0 < 256)
    → added_strip at src x ≡ added_scaled 1 at src x
unfolding added_strip added_scaled
added_once at src x small =
    patched_ext at (length src) _ _ x
    (λ b l. ap (λ (v : ℕ). get_or x (at + b) 0 ⊕ v) (sym (one-mul (get_or src b 0) (small b))))

pub added_length : (f at : ℕ) (ys xs : List ℕ) → length (added_scaled f at ys xs) ≡ length xs
unfolding added_scaled
added_length f at ys xs = patched_length at (length ys) _ xs

pub added_zero : (at : ℕ) (ys xs : List ℕ) → added_scaled 0 at ys xs ≡ xs
unfolding added_scaled
added_zero at ys xs =
    ext_get_or 0 (added_scaled 0 at ys xs) xs (added_length 0 at ys xs)
    (λ p h. go p (omega (arith, added_length 0 at ys xs)) (dec_lt p at) (dec_lt p (at + length ys)))
  where
    go : (p : ℕ) → p < length xs → Dec (p < at) → Dec (p < at + length ys)
        → get_or (added_scaled 0 at ys xs) p 0 ≡ get_or xs p 0
    go p h (yes d) k = patched_out at (length ys) _ xs p (λ l q. omega arith)
    go p h (no d) (no k) = patched_out at (length ys) _ xs p (λ l q. omega arith)
    go p h (no d) (yes k) =
        let q : at + (p - at) ≡ p = omega arith in
        rw (← q) (patched_in at (length ys) _ xs (p - at) (omega arith) (omega arith) ∙ rw (zero-mul, add-zero))

-- y times a strip, by the lowest bit of y and the others: what the bit adds, then half of y times the doubled strip
module _ (at y : ℕ) (s x : List ℕ) (small : y < 256) (fits : at + length s ≤ length x) where
  bit_at : (a v : ℕ) → (a ⊕ ((y % 2) ⊗ v)) ⊕ ((y / 2) ⊗ double v) ≡ a ⊕ (y ⊗ v)
  bit_at a v =
      add_assoc a ((y % 2) ⊗ v) ((y / 2) ⊗ double v) ∙ ap (λ (z : ℕ). a ⊕ z) (sym (mul_turn y v small))

  pub added_bit : added_scaled (y / 2) at (doubled_strip s) (added_scaled (y % 2) at s x) ≡ added_scaled y at s x
  unfolding added_scaled doubled_strip
  added_bit =
      let z : List ℕ = added_scaled (y % 2) at s x in
      ap (λ (m : ℕ). patched at m (λ b. get_or z (at + b) 0 ⊕ ((y / 2) ⊗ get_or (doubled_strip s) b 0)) z)
      (listed_length (length s) _)
      ∙ patched_ext at (length s) _ (λ b. get_or x (at + b) 0 ⊕ (y ⊗ get_or s b 0)) z
      (λ b h. ap₂ (λ (u v : ℕ). u ⊕ ((y / 2) ⊗ v)) (patched_in at (length s) _ x b h (omega arith))
      (listed_at (length s) _ b 0 h)
      ∙ bit_at (get_or x (at + b) 0) (get_or s b 0))
      ∙ patched_again at (length s) _ _ x

-- what is left of the strip: where y is below 2 to the m, m doublings are as many as there are
more_doublings : (m y : ℕ) (x : List ℕ) → y < 2 ^ m → doubled_while m y x ≡ doubled_while (suc m) y x
unfolding doubled_while
more_doublings zero y x h = let e : y ≡ 0 = omega arith in rw e
more_doublings (suc m) y x h =
    ap (λ (z : List ℕ). cond (ltb 0 y) z x) (more_doublings m (y / 2) (doubled_strip x) (omega (arith, pow-suc 2 m)))

pub doubled_next : (y : ℕ) (x : List ℕ) → 0 < y → y < 256 → doubled_while 8 (y / 2) (doubled_strip x) ≡ doubled_while 8 y x
unfolding doubled_while
doubled_next y x some small =
    sym (more_doublings 7 (y / 2) (doubled_strip x) (omega arith)) ∙ sym (rw (lt-ltb 0 y some))

pub doubled_no_more : (x : List ℕ) → doubled_while 8 0 x ≡ x
unfolding doubled_while
doubled_no_more x = refl

pub used_whole : (c : ℕ) (x : List ℕ) → 32 ≤ c → x ≡ used_up c x
unfolding used_up
used_whole c x h = rw (le-ltb c 32 h)

pub used_by_bits : (c : ℕ) (x : List ℕ) → c < 32 → doubled_while 8 (c / 2) x ≡ used_up c x
unfolding used_up
used_by_bits c x h = rw (lt-ltb c 32 h)

-- f·y added to a list from its first entry on
module _ (f : ℕ) (ys xs : List ℕ) where
  pub added_at_lem : (j : ℕ) → j < length xs → get_or (added_scaled f 0 ys xs) j 0 ≡ get_or xs j 0 ⊕ (f ⊗ get_or ys j 0)
  unfolding added_scaled
  added_at_lem j h = go (dec_lt j (length ys))
    where
      go : Dec (j < length ys) → get_or (added_scaled f 0 ys xs) j 0 ≡ get_or xs j 0 ⊕ (f ⊗ get_or ys j 0)
      go (yes k) =
          let z : 0 + j ≡ j = zero-add j in
          rw z at (patched_in 0 (length ys) (λ b. get_or xs (0 + b) 0 ⊕ (f ⊗ get_or ys b 0)) xs j k (omega arith))
      go (no k) =
          let short : length ys ≤ j = omega arith in
          patched_out 0 (length ys) _ xs j (λ l q. omega arith)
          ∙ sym (rw (get_or-eq_default ys 0 short, mul-zero, add-zero))

  -- no multiple of y: the list stays
  pub added_none : f ≡ 0 → added_scaled f 0 ys xs ≡ xs
  added_none e = ap (λ (g : ℕ). added_scaled g 0 ys xs) e ∙ added_zero 0 ys xs

-- a multiple of a strip added to a whole list of its length
module _ (c n : ℕ) (f g : ℕ → ℕ) where
  abbrev sums : ℕ → ℕ
  sums b = get_or (listed n g) (0 + b) 0 ⊕ (c ⊗ get_or (listed n f) b 0)

  sums_at : (b : ℕ) → b < n → sums b ≡ g b ⊕ (c ⊗ f b)
  sums_at b h =
      ap₂ (λ (u v : ℕ). u ⊕ (c ⊗ v))
      (ap (λ (e : ℕ). get_or (listed n g) e 0) (zero-add b) ∙ listed_at n g b 0 h) (listed_at n f b 0 h)

  pub added_listed : added_scaled c 0 (listed n f) (listed n g) ≡ listed n (λ b. g b ⊕ (c ⊗ f b))
  unfolding added_scaled
  added_listed =
      let added : List ℕ = patched 0 (length (listed n f)) sums (listed n g) in
      let size : length added ≡ n = patched_length 0 (length (listed n f)) sums (listed n g) ∙ listed_length n g in
      ext_get_or 0 added (listed n (λ b. g b ⊕ (c ⊗ f b))) (size ∙ sym (listed_length n _))
      (λ b h.
      let l : b < n = omega (arith, size) in
      ap (λ (e : ℕ). get_or added e 0) (sym (zero-add b))
      ∙ patched_in 0 (length (listed n f)) sums (listed n g) b (omega (arith, listed_length n f))
      (omega (arith, listed_length n g))
      ∙ sums_at b l ∙ sym (listed_at n (λ b. g b ⊕ (c ⊗ f b)) b 0 l))

-- a multiple of one strip of a list added to another
pub added_strips : (c : ℕ) (x : List ℕ) (at other s : ℕ)
    → added_scaled c 0 (strip_at x other s) (strip_at x at s)
    ≡ listed s (λ b. get_or x (at + b) 0 ⊕ (c ⊗ get_or x (other + b) 0))
unfolding strip_at
added_strips c x at other s = added_listed c s (λ b. get_or x (other + b) 0) (λ b. get_or x (at + b) 0)
