-- The offsets of the sources whose weight has a bit: how they are gathered, where they lie, what adding at them
-- gives.
use mathlib.Core.Path.{◌≡◌, refl, sym, ap, ap₂, ◌∙◌}
use mathlib.Core.List.{List, [], ◌∷◌, ◌++◌, append-nil}
use Prim.Native.Nat.{ℕ, zero, suc, ◌+◌, ◌*◌, ◌/◌, ◌%◌, ◌^◌, ◌≤◌, ◌<◌}
use native.Mathlib.Nat.{mod-lt, add-zero, zero-mul, suc-mul, le_refl}
use native.Mathlib.Numerals.{add-one}
use native.Mathlib.Omega.{arith}
use lib.Dec.{lit<}
use lib.ListN.{length, get_or, take, set, length-map}
use lib.Seq.{take-suc, take-set-le, take-suc-set}
use lib.Seq.{length-take-le}
use Rattle.lists.proofs.Listed.{listed_ext}
use Rattle.gf256.specs.Field.{◌⊕◌, double}
use Rattle.gf256.proofs.Ring as R
use Rattle.strips.specs.Strips.{sum_of}
use Rattle.strips.specs.Planes.{bits_at, plane_of, offsets_of, added_at, added_with}

-- ---- gathering
bits_length : (i : ℕ) (ws : List ℕ) → length (bits_at i ws) ≡ length ws
unfolding bits_at
bits_length i ws = length-map ws _

bits_append : (i : ℕ) (ws vs : List ℕ) → bits_at i (ws ++ vs) ≡ bits_at i ws ++ bits_at i vs
unfolding bits_at
bits_append i [] vs = refl
bits_append i (w ∷ ws) vs = ap (λ (l : List ℕ). (w / 2 ^ i % 2) ∷ l) (bits_append i ws vs)

shift : (first stride m : ℕ) → first + stride + m * stride ≡ first + suc m * stride
shift first stride m = omega (arith, suc-mul m stride)

offsets_append : (ds es : List ℕ) (first stride : ℕ)
    → offsets_of (ds ++ es) first stride ≡ offsets_of ds first stride ++ offsets_of es (first + length ds * stride) stride
unfolding offsets_of
offsets_append [] es first stride =
    ap (λ (k : ℕ). offsets_of es k stride) (sym (ap (λ (k : ℕ). first + k) (zero-mul stride) ∙ add-zero first))
offsets_append (zero ∷ ds) es first stride =
    offsets_append ds es (first + stride) stride
    ∙ ap (λ (k : ℕ). offsets_of ds (first + stride) stride ++ offsets_of es k stride) (shift first stride (length ds))
offsets_append (suc d ∷ ds) es first stride =
    ap (λ (l : List ℕ). first ∷ l)
    (offsets_append ds es (first + stride) stride
    ∙ ap (λ (k : ℕ). offsets_of ds (first + stride) stride ++ offsets_of es k stride) (shift first stride (length ds)))

-- the next offset is written behind those gathered, and counted where its bit is 1
count_one : (d count o stride : ℕ) (at : List ℕ) → d < 2 → count < length at
    → take (count + d) (set at count o) ≡ take count at ++ offsets_of (d ∷ []) o stride
unfolding offsets_of
count_one zero count o stride at h k =
    ap (λ (m : ℕ). take m (set at count o)) (add-zero count) ∙ take-set-le count at count o (le_refl count)
    ∙ sym (append-nil (take count at))
count_one (suc zero) count o stride at h k =
    ap (λ (m : ℕ). take m (set at count o)) (add-one count) ∙ take-suc-set at count o k
count_one (suc (suc d)) count o stride at h k = absurd (omega arith)

pub gathered : (i : ℕ) (ws at : List ℕ) (count q first stride : ℕ) → count < length at → q < length ws
    → take count at ≡ offsets_of (bits_at i (take q ws)) first stride
    → take (count + get_or ws q 0 / 2 ^ i % 2) (set at count (first + q * stride))
    ≡ offsets_of (bits_at i (take (q + 1) ws)) first stride
unfolding bits_at
gathered i ws at count q first stride h k e =
    count_one (get_or ws q 0 / 2 ^ i % 2) count (first + q * stride) stride at (mod-lt _ (lit< tt)) h
    ∙ ap₂ (λ (l : List ℕ) (m : ℕ). l ++ offsets_of (bits_at i (get_or ws q 0 ∷ [])) (first + m * stride) stride) e
    (sym (bits_length i (take q ws) ∙ length-take-le q ws (omega arith)))
    ∙ sym (offsets_append (bits_at i (take q ws)) (bits_at i (get_or ws q 0 ∷ [])) first stride)
    ∙ ap (λ (ds : List ℕ). offsets_of ds first stride)
    (sym (bits_append i (take q ws) (get_or ws q 0 ∷ [])) ∙ ap (bits_at i) (sym (take-suc ws q 0 k))
    ∙ ap (λ (m : ℕ). bits_at i (take m ws)) (sym (add-one q)))

-- ---- the sources lie inside src
offsets_inside : (ds : List ℕ) (first stride n size : ℕ) → ((q : ℕ) → q < length ds → first + q * stride + n ≤ size)
    → (j : ℕ) → j < length (offsets_of ds first stride) → get_or (offsets_of ds first stride) j 0 + n ≤ size
unfolding offsets_of
offsets_inside [] first stride n size h j k = absurd (omega arith)
offsets_inside (zero ∷ ds) first stride n size h j k =
    offsets_inside ds (first + stride) stride n size
    (λ q l. omega (arith, h (suc q) (omega arith), shift first stride q)) j k
offsets_inside (suc d ∷ ds) first stride n size h zero k = omega (arith, h 0 (omega arith), zero-mul stride)
offsets_inside (suc d ∷ ds) first stride n size h (suc j) k =
    offsets_inside ds (first + stride) stride n size
    (λ q l. omega (arith, h (suc q) (omega arith), shift first stride q)) j (omega arith)

pub gathered_inside : (i : ℕ) (ws : List ℕ) (first stride n size : ℕ)
    → ((q : ℕ) → q < length ws → first + q * stride + n ≤ size)
    → (j : ℕ) → j < length (offsets_of (bits_at i ws) first stride)
    → get_or (offsets_of (bits_at i ws) first stride) j 0 + n ≤ size
gathered_inside i ws first stride n size h =
    offsets_inside (bits_at i ws) first stride n size (λ q l. h q (omega (arith, bits_length i ws)))

-- ---- adding at the offsets
added_bit : (d : ℕ) (ds src : List ℕ) (first stride b : ℕ) → d < 2 → get_or src (first + b) 0 < 256
    → added_at (offsets_of ds (first + stride) stride) src b ≡ sum_of ds src (first + b + stride) stride
    → added_at (offsets_of (d ∷ ds) first stride) src b ≡ sum_of (d ∷ ds) src (first + b) stride
unfolding offsets_of added_at sum_of
added_bit zero ds src first stride b h k e =
    e ∙ sym (ap (λ (z : ℕ). z ⊕ sum_of ds src (first + b + stride) stride) (R.zero-mul _) ∙ R.zero-add _)
added_bit (suc zero) ds src first stride b h k e = ap₂ ◌⊕◌ (sym (R.one-mul _ k)) e
added_bit (suc (suc d)) ds src first stride b h k e = absurd (omega arith)

added_gathered : (i : ℕ) (ws src : List ℕ) (first stride b : ℕ) → ((p : ℕ) → get_or src p 0 < 256)
    → added_at (offsets_of (bits_at i ws) first stride) src b ≡ sum_of (bits_at i ws) src (first + b) stride
unfolding bits_at offsets_of added_at sum_of
added_gathered i [] src first stride b h = refl
added_gathered i (w ∷ ws) src first stride b h =
    added_bit (w / 2 ^ i % 2) (bits_at i ws) src first stride b (mod-lt _ (lit< tt)) (h (first + b))
    (added_gathered i ws src (first + stride) stride b h
    ∙ ap (λ (p : ℕ). sum_of (bits_at i ws) src p stride) (omega arith))

pub plane_gathered : (i : ℕ) (ws src x : List ℕ) (first stride : ℕ) (os y : List ℕ) → ((p : ℕ) → get_or src p 0 < 256)
    → os ≡ offsets_of (bits_at i ws) first stride → y ≡ added_with double os src x → y ≡ plane_of i ws src first stride x
unfolding added_with plane_of
plane_gathered i ws src x first stride os y h e f =
    f
    ∙ listed_ext (length x) _ _ (λ b l.
    ap (λ (z : ℕ). double (get_or x b 0) ⊕ z)
    (ap (λ (ps : List ℕ). added_at ps src b) e ∙ added_gathered i ws src first stride b h))
