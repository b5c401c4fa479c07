-- Arrays in memory's order: the laws of `laid_out`, and that the plain array, coupled, is the encoded array.
use mathlib.Core.Path.{◌≡◌, sym, ap, ap₂, ◌∙◌}
use mathlib.Core.List.{List, ◌++◌}
use Prim.Native.Nat.{ℕ, zero, suc, ◌+◌, ◌*◌, ◌/◌, ◌%◌, ◌<◌}
use native.Mathlib.Nat.{mul-zero, suc-mul, add-mul, mod-lt, div-add-mod', div-lt_iff_lt-mul}
use native.Mathlib.Decide.{ℕ_discrete, dec_lt}
use native.Mathlib.Omega.{arith}
use lib.Arith.{digits_div, digits_mod, digits_lt}
use lib.ListN.{length, get_or}
use lib.Seq.{ext_get_or}
use Rattle.lists.specs.Listed.{listed}
use Rattle.lists.proofs.Listed.{listed_length, listed_at, listed_ext, listed_add}
use Rattle.algebra.specs.Pick.{pick}
use Rattle.algebra.proofs.Pick.{pick_yes, pick_no}
use Rattle.document.specs.declared.Profile.{Profile}
use Rattle.document.specs.declared.Place.{Place}
use Rattle.document.specs.Profile.{Accepted}
use Rattle.document.specs.Places.{place, local_column, partner_of, Within}
use Rattle.document.specs.ByteField.{bytes, Byte, byte, number}
use Rattle.document.specs.Encoding.{
  start,
  byte_at,
  base_at,
  constant_of,
  coupled_at,
  laid_out,
  column_of,
  Data,
  Stored,
  plain,
  coupled,
  encoded,
}
use Rattle.document.proofs.ByteField.{number_lt, number_byte, byte_number}
use Rattle.document.proofs.Bounds.{partner_within}

infixl 65 ◌⊕◌
infixl 70 ◌⊗◌
open bytes use {add as ◌⊕◌, mul as ◌⊗◌}

-- a product that is above something has factors above 0
pub factor_above : (m w e : ℕ) → e < m * w → 0 < w
factor_above m zero e h = absurd (omega (arith, mul-zero m))
factor_above m (suc w) e h = omega arith

module _ (p : Profile) where
  open p use {n, k, a as A, s as S}

  module _ (m : ℕ) (f : ℕ → Place → Byte) where
    abbrev at_index : ℕ → ℕ
    at_index e = number (f (e % S) (place (e / S / A) (e / S % A)))

    pub laid_length : length (laid_out p m f) ≡ m * A * S
    unfolding laid_out
    laid_length = listed_length (m * A * S) at_index

    -- an array in memory's order is a list of bytes
    pub laid_small : (e : ℕ) → e < length (laid_out p m f) → get_or (laid_out p m f) e 0 < 256
    unfolding laid_out
    laid_small e l = rw (listed_at {X = ℕ} (m * A * S) _ e 0 (rw listed_length at l)) (number_lt _)

    -- byte b of strip z
    pub laid_strip : (z b : ℕ) → z < m * A → b < S
        → get_or (laid_out p m f) (z * S + b) 0 ≡ number (f b (place (z / A) (z % A)))
    unfolding laid_out
    laid_strip z b h l =
        listed_at (m * A * S) at_index (z * S + b) 0 (digits_lt h l)
        ∙ ap₂ (λ (o y : ℕ). number (f o (place (y / A) (y % A)))) (digits_mod z l) (digits_div z l)

    -- byte b of the strip of node j, row i
    pub laid_byte : (b j i : ℕ) → b < S → j < m → i < A → byte_at p (laid_out p m f) b (place j i) ≡ f b (place j i)
    unfolding byte_at start
    laid_byte b j i l h r =
        ap byte
        (laid_strip (j * A + i) b (digits_lt h r) l
        ∙ ap₂ (λ (y x : ℕ). number (f b (place y x))) (digits_div j r) (digits_mod j r))
        ∙ byte_number (f b (place j i))

    -- a list with these bytes at each strip is the array
    pub laid_only : (x : List ℕ) → length x ≡ m * A * S
        → ((z b : ℕ) → z < m * A → b < S → get_or x (z * S + b) 0 ≡ number (f b (place (z / A) (z % A))))
        → x ≡ laid_out p m f
    laid_only x size h = ext_get_or 0 x (laid_out p m f) (size ∙ sym laid_length) at
      where
        at : (e : ℕ) → e < length x → get_or x e 0 ≡ get_or (laid_out p m f) e 0
        at e l =
            let S>0 : 0 < S = factor_above (m * A) S e (omega arith) in
            let z : e / S < m * A = (div-lt_iff_lt-mul S>0).1 (omega arith) in
            let b : e % S < S = mod-lt e S>0 in
            rw (← div-add-mod' e S) (h (e / S) (e % S) z b ∙ sym (laid_strip (e / S) (e % S) z b))

    -- one column more
    pub laid_next : laid_out p (suc m) f ≡ laid_out p m f ++ column_of p f m
    unfolding laid_out column_of
    laid_next =
        ap (λ (c : ℕ). listed c at_index) (ap (λ (c : ℕ). c * S) (suc-mul m A) ∙ add-mul (m * A) A S)
        ∙ listed_add (m * A * S) (A * S) at_index
        ∙ ap (λ (l : List ℕ). listed (m * A * S) at_index ++ l) (listed_ext (A * S) _ _ at)
      where
        at : (o : ℕ) → o < A * S → at_index (m * A * S + o) ≡ number (f (o % S) (place m (o / S)))
        at o l =
            let S>0 : 0 < S = factor_above A S o l in
            let r : o / S < A = (div-lt_iff_lt-mul S>0).1 l in
            let e : m * A * S + o ≡ (m * A + o / S) * S + o % S =
            omega (arith, add-mul (m * A) (o / S) S, div-add-mod' o S) in
            ap at_index e
            ∙ ap₂ (λ (b z : ℕ). number (f b (place (z / A) (z % A)))) (digits_mod (m * A + o / S) (mod-lt o S>0))
            (digits_div (m * A + o / S) (mod-lt o S>0))
            ∙ ap₂ (λ (j i : ℕ). number (f (o % S) (place j i))) (digits_div m r) (digits_mod m r)

  -- arrays with the same bytes at each place are equal
  pub laid_ext : (m : ℕ) (f g : ℕ → Place → Byte)
      → ((b j i : ℕ) → b < S → j < m → i < A → f b (place j i) ≡ g b (place j i)) → laid_out p m f ≡ laid_out p m g
  laid_ext m f g h = laid_only m g (laid_out p m f) (laid_length m f) at
    where
      at : (z b : ℕ) → z < m * A → b < S → get_or (laid_out p m f) (z * S + b) 0 ≡ number (g b (place (z / A) (z % A)))
      at z b l r =
          let A>0 : 0 < A = factor_above m A z l in
          laid_strip m f z b l r ∙ ap number (h b (z / A) (z % A) r ((div-lt_iff_lt-mul A>0).1 l) (mod-lt z A>0))

  -- a list of bytes is laid out from the bytes at its places
  pub laid_bytes : (m : ℕ) (x : List ℕ) → length x ≡ m * A * S → ((e : ℕ) → e < length x → get_or x e 0 < 256)
      → x ≡ laid_out p m (byte_at p x)
  unfolding byte_at start
  laid_bytes m x size small = laid_only m (byte_at p x) x size at
    where
      at : (z b : ℕ) → z < m * A → b < S → get_or x (z * S + b) 0 ≡ number (byte_at p x b (place (z / A) (z % A)))
      at z b h l = rw (div-add-mod' z A) (sym (number_byte _ (small (z * S + b) (rw size (digits_lt h l)))))

  -- any symbols laid out are data, and an encoded array is a stored one
  pub laid_data : (f : ℕ → Place → Byte) → Data p (laid_out p k f)
  laid_data f = record { size = laid_length k f; bytes_only = laid_small k f }

  pub encoded_stored : (d : List ℕ) → Stored p (encoded p d)
  unfolding encoded
  encoded_stored d = record { size = laid_length n _; bytes_only = laid_small n _ }

  -- what is stored at a place, by document 01's three cases
  module _ (a : Place → Byte) (j i : ℕ) where
    pub coupled_diagonal : i ≡ j % A → coupled_at p a (place j i) ≡ a (place j i)
    unfolding coupled_at
    coupled_diagonal e = pick_yes (ℕ_discrete i (j % A)) _ _ e

    pub coupled_upper : i < j % A → coupled_at p a (place j i) ≡ a (place j i) ⊕ a (partner_of A (place j i))
    unfolding coupled_at
    coupled_upper l = pick_no (ℕ_discrete i (j % A)) _ _ (λ e. omega arith) ∙ pick_yes (dec_lt i (j % A)) _ _ l

    pub coupled_lower : j % A < i
        → coupled_at p a (place j i) ≡ a (place j i) ⊕ constant_of p i (j % A) ⊗ a (partner_of A (place j i))
    unfolding coupled_at
    coupled_lower l =
        pick_no (ℕ_discrete i (j % A)) _ _ (λ e. omega arith) ∙ pick_no (dec_lt i (j % A)) _ _ (λ m. omega arith)

  -- what is stored at a place turns on the base symbols there and at its partner
  pub coupled_ext : (a c : Place → Byte) (q : Place) → a q ≡ c q → a (partner_of A q) ≡ c (partner_of A q)
      → coupled_at p a q ≡ coupled_at p c q
  unfolding coupled_at
  coupled_ext a c q e h =
      let i : ℕ = q.row.0 in
      let l : ℕ = local_column A q.node in
      ap₂ (λ (u v : Byte). pick (ℕ_discrete i l) u (pick (dec_lt i l) (u ⊕ v) (u ⊕ constant_of p i l ⊗ v))) e h

  -- plain rows, then coupled, is encoded
  pub plain_coupled : Accepted p → (d : List ℕ) → coupled p (plain p d) ≡ encoded p d
  unfolding coupled plain encoded
  plain_coupled acc d =
      laid_ext n (λ b. coupled_at p (byte_at p (laid_out p n (base_at p d)) b)) (λ b. coupled_at p (base_at p d b))
      (λ b j i l h r.
      let w : Within p (partner_of A (place j i)) = partner_within p acc (place j i) (record { node = h; row = r }) in
      coupled_ext (byte_at p (laid_out p n (base_at p d)) b) (base_at p d b) (place j i)
      (laid_byte n (base_at p d) b j i l h r)
      (laid_byte n (base_at p d) b (j / A * A + i) (j % A) l w.node w.row))
