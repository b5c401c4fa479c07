-- The laws of folded strips: what is folded at a node, their length, their bytes, one node's strip, and a loop that
-- writes strip after strip.
use mathlib.Core.Path.{◌≡◌, sym, ap, ap₂, ◌∙◌}
use mathlib.Core.Bool.{Bool, true, false, cond}
use mathlib.Core.List.{List, [], ◌∷◌, ◌++◌, append_assoc}
use Prim.Native.Nat.{ℕ, ◌+◌, ◌*◌, ◌/◌, ◌%◌, ◌<◌}
use native.Mathlib.Nat.{add-mul, zero-mul, one-mul, mod-lt, mod-eq_of_lt, div-eq_of_lt, div-add-mod', div-lt_iff_lt-mul}
use native.Mathlib.Numerals.{add-one}
use native.Mathlib.Omega.{arith}
use lib.Arith.{digits_lt, digits_div, digits_mod}
use lib.ListN.{length, get_or, take, length-append, get_or-append}
use lib.Seq.{take-suc, take_at, length-take-le, get_or-append-add}
use Rattle.lists.specs.Listed.{listed}
use Rattle.lists.proofs.Listed.{listed_length, listed_at, listed_ext, listed_add}
use Rattle.document.specs.declared.Profile.{Profile}
use Rattle.document.specs.declared.Node.{Node}
use Rattle.document.specs.declared.Place.{Place}
use Rattle.document.specs.Places.{partner_of}
use Rattle.document.specs.Encoding.{factor_at}
use Rattle.document.specs.ByteField.{bytes, Byte, number}
use Rattle.document.specs.Plan.{is_off_diagonal, row_at}
use Rattle.rebuild.specs.Folded.{folded_at, folded_of}

module _ (p : Profile) (f : Node) (x : ℕ → Place → Byte) where
  open p use {a as A, s as S}

  -- byte b of row c at node j, and the factor times its partner's
  abbrev pair : ℕ → ℕ → Byte
  pair b j =
      let q : Place = row_at A f j in
      bytes.add (x b q) (bytes.mul (factor_at p (f.0 % A) (j % A)) (x b (partner_of A q)))

  abbrev at_index : List ℕ → ℕ → ℕ
  at_index js e = number (folded_at p f x (e % S) (get_or js (e / S) 0))

  -- what is folded at node j: on the diagonal one strip, off it two
  pub folded_single : (b j : ℕ) → is_off_diagonal A f j ≡ false → folded_at p f x b j ≡ x b (row_at A f j)
  unfolding folded_at
  folded_single b j e = ap (λ (t : Bool). cond t (pair b j) (x b (row_at A f j))) e

  pub folded_pair : (b j : ℕ) → is_off_diagonal A f j ≡ true → folded_at p f x b j ≡ pair b j
  unfolding folded_at
  folded_pair b j e = ap (λ (t : Bool). cond t (pair b j) (x b (row_at A f j))) e

  pub folded_length : (js : List ℕ) → length (folded_of p f x js) ≡ length js * S
  unfolding folded_of
  folded_length js = listed_length (length js * S) (at_index js)

  -- byte b of strip z
  pub folded_at_lem : (js : List ℕ) (z b : ℕ) → z < length js → b < S
      → get_or (folded_of p f x js) (z * S + b) 0 ≡ number (folded_at p f x b (get_or js z 0))
  unfolding folded_of
  folded_at_lem js z b h l =
      listed_at (length js * S) (at_index js) (z * S + b) 0 (digits_lt h l)
      ∙ ap₂ (λ (o y : ℕ). number (folded_at p f x o (get_or js y 0))) (digits_mod z l) (digits_div z l)

  -- before the first strip
  pub none_folded : (xs : List ℕ) → take (0 * S) xs ≡ folded_of p f x []
  unfolding folded_of listed
  none_folded xs = ap (λ (c : ℕ). take c xs) (zero-mul S) ∙ sym (ap (λ (c : ℕ). listed c (at_index [])) (zero-mul S))

  -- the strip of one node
  pub folded_one : (j : ℕ) (g : ℕ → ℕ) → ((b : ℕ) → b < S → g b ≡ number (folded_at p f x b j))
      → listed S g ≡ folded_of p f x (j ∷ [])
  unfolding folded_of
  folded_one j g h =
      listed_ext S g (at_index (j ∷ []))
      (λ b l. h b l
      ∙ sym (ap₂ (λ (o y : ℕ). number (folded_at p f x o (get_or (j ∷ []) y 0))) (mod-eq_of_lt l) (div-eq_of_lt l)))
      ∙ ap (λ (c : ℕ). listed c (at_index (j ∷ []))) (sym (one-mul S))

  module _ (S>0 : 0 < S) where
    folded_append : (is js : List ℕ) → folded_of p f x (is ++ js) ≡ folded_of p f x is ++ folded_of p f x js
    unfolding folded_of
    folded_append is js =
        ap (λ (c : ℕ). listed c (at_index (is ++ js)))
        (ap (λ (c : ℕ). c * S) (length-append is js) ∙ add-mul (length is) (length js) S)
        ∙ listed_add (length is * S) (length js * S) (at_index (is ++ js))
        ∙ ap₂ ◌++◌ (listed_ext (length is * S) _ _ first) (listed_ext (length js * S) _ _ second)
      where
        first : (e : ℕ) → e < length is * S → at_index (is ++ js) e ≡ at_index is e
        first e l =
            ap (λ (j : ℕ). number (folded_at p f x (e % S) j))
            (get_or-append is js 0 (e / S) ((div-lt_iff_lt-mul S>0).1 l))

        second : (e : ℕ) → e < length js * S → at_index (is ++ js) (length is * S + e) ≡ at_index js e
        second e l =
            let b : e % S < S = mod-lt e S>0 in
            let z : ℕ = length is + e / S in
            let same : length is * S + e ≡ z * S + e % S =
            omega (arith, add-mul (length is) (e / S) S, div-add-mod' e S) in
            ap (at_index (is ++ js)) same
            ∙ ap₂ (λ (o y : ℕ). number (folded_at p f x o (get_or (is ++ js) y 0))) (digits_mod z b) (digits_div z b)
            ∙ ap (λ (j : ℕ). number (folded_at p f x (e % S) j)) (get_or-append-add is js (e / S) 0)

    -- one strip more
    pub next_strip : (js : List ℕ) (i : ℕ) → i < length js → (xs ys rest : List ℕ)
        → take (i * S) xs ≡ folded_of p f x (take i js) → ys ≡ folded_of p f x (get_or js i 0 ∷ [])
        → take ((i + 1) * S) (take (i * S) xs ++ (ys ++ rest)) ≡ folded_of p f x (take (i + 1) js)
    next_strip js i l xs ys rest h e =
        ap (take ((i + 1) * S)) (sym (append_assoc (take (i * S) xs) ys rest))
        ∙ take_at (take (i * S) xs ++ ys) rest ((i + 1) * S) (ap length more ∙ size) ∙ more
      where
        more : take (i * S) xs ++ ys ≡ folded_of p f x (take (i + 1) js)
        more =
            ap₂ ◌++◌ h e ∙ sym (folded_append (take i js) (get_or js i 0 ∷ []))
            ∙ ap (folded_of p f x) (sym (rw add-one (take-suc js i 0 l)))

        size : length (folded_of p f x (take (i + 1) js)) ≡ (i + 1) * S
        size =
            folded_length (take (i + 1) js)
            ∙ ap (λ (c : ℕ). c * S) (length-take-le (i + 1) js (omega arith))
