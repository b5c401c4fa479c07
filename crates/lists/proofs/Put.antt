-- The laws of `put` and `Wrote`: one entry, the next entry, two writes in a row, nothing written, the whole written.
use mathlib.Core.Path.{◌≡◌, refl, sym, ap, subst, ◌∙◌}
use mathlib.Core.List.{List, [], ◌∷◌, ◌++◌, append_assoc, append-nil}
use Prim.Native.Nat.{ℕ, ◌+◌, ◌≤◌, ◌<◌}
use native.Mathlib.Nat.{add-zero, zero-add}
use native.Mathlib.Numerals.{add-one}
use native.Mathlib.Omega.{arith}
use lib.ListN.{length, get_or, set, take, drop, length-append, length-take, length-drop, take-append-drop}
use lib.Seq.{set_split, take_at, take-suc, drop_at, drop-drop, drop-length, length-take-le}
use Rattle.lists.specs.Put.{put, Wrote}

pub set_put : (d : List ℕ) (i b : ℕ) → i < length d → set d i b ≡ put d i (b ∷ [])
unfolding put
set_put d i b h = rw (set_split d i b h, add-one)

pub put_none : (d : List ℕ) (at : ℕ) → put d at [] ≡ d
unfolding put
put_none d at = rw (add-zero, take-append-drop)

module _ (d : List ℕ) (at : ℕ) (h : at ≤ length d) where
  front_length : (u : List ℕ) → length (take at d ++ u) ≡ at + length u
  front_length u = simp (length-append, length-take-le at d h)

  pub put_put : (u v : List ℕ) → put (put d at u) (at + length u) v ≡ put d at (u ++ v)
  unfolding put
  put_put u v =
      let p : List ℕ = take at d ++ u in
      let q : List ℕ = drop (at + length u) d in
      let n : ℕ = at + length u in
      let e : take at d ++ (u ++ q) ≡ p ++ q = sym (append_assoc (take at d) u q) in
      let t : take n (take at d ++ (u ++ q)) ≡ p = ap (take n) e ∙ take_at p q n (front_length u) in
      let r : drop n (take at d ++ (u ++ q)) ≡ q = ap (drop n) e ∙ drop_at p q n (front_length u) in
      let s : drop (n + length v) (take at d ++ (u ++ q)) ≡ drop (n + length v) d =
      sym (drop-drop (length v) n (take at d ++ (u ++ q))) ∙ ap (drop (length v)) r ∙ drop-drop (length v) n d in
      let l : at + length (u ++ v) ≡ n + length v = simp length-append (omega arith) in
      rw (t, s, l) (simp append_assoc)

  put_length : (u : List ℕ) → at + length u ≤ length d → length (put d at u) ≡ length d
  unfolding put
  put_length u k = simp (length-append, length-take-le at d h, length-drop) (omega arith)

-- a loop that writes a list entry by entry
pub put_next : (d s : List ℕ) (at i : ℕ) → at + length s ≤ length d → i < length s
    → set (put d at (take i s)) (at + i) (get_or s i 0) ≡ put d at (take (i + 1) s)
put_next d s at i h k =
    let a : at ≤ length d = omega arith in
    let l : length (take i s) ≡ i = length-take-le i s (omega arith) in
    let n : length (put d at (take i s)) ≡ length d = put_length d at a (take i s) (omega arith) in
    let e : take (i + 1) s ≡ take i s ++ (get_or s i 0 ∷ []) = rw (add-one, take-suc s i 0 k) in
    set_put _ _ _ (omega arith)
    ∙ ap (λ (m : ℕ). put (put d at (take i s)) (at + m) (get_or s i 0 ∷ [])) (sym l)
    ∙ put_put d at a (take i s) (get_or s i 0 ∷ [])
    ∙ ap (put d at) (sym e)

-- the whole list written anew
pub put_whole : (d u : List ℕ) → length u ≡ length d → put d 0 u ≡ u
unfolding put
put_whole d u e = rw (e, zero-add, drop-length, append-nil)

-- one entry stored
pub wrote_one : (d : List ℕ) (at b : ℕ) → at < length d → Wrote d at (b ∷ []) (at + 1) (set d at b)
wrote_one d at b h = record { ends = refl; holds = set_put d at b h }

pub wrote_none : (d : List ℕ) (at : ℕ) → Wrote d at [] at d
wrote_none d at = record { ends = sym (add-zero at); holds = sym (put_none d at) }

-- two writes in a row, as the calls' contracts have them
pub wrote_then : {d e f u v : List ℕ} {at m n : ℕ} → at ≤ length d → Wrote d at u m e → Wrote e m v n f
    → Wrote d at (u ++ v) n f
wrote_then {d} {e} {f} {u} {v} {at} {m} {n} h p q = record {
  ends = q.ends ∙ ap (λ (k : ℕ). k + length v) p.ends ∙ simp length-append (omega arith);
  holds =
      q.holds ∙ ap (λ (l : List ℕ). put l m v) p.holds ∙ ap (λ (k : ℕ). put (put d at u) k v) p.ends
      ∙ put_put d at h u v;
}

-- another name for what was written
pub wrote_same : {d e u v : List ℕ} {at n : ℕ} → u ≡ v → Wrote d at u n e → Wrote d at v n e
wrote_same {d} {e} {u} {v} {at} {n} p w = subst (λ (l : List ℕ). Wrote d at l n e) p w

-- what was written from the front on stands there
pub wrote_front : {d e u : List ℕ} {n : ℕ} → Wrote d 0 u n e → (n ≡ length u) × (take n e ≡ u)
unfolding put
wrote_front {d} {e} {u} {n} w =
    let size : n ≡ length u = omega (arith, w.ends) in
    (size, ap (take n) w.holds ∙ take_at u (drop (0 + length u) d) n (sym size))

pub wrote_fits : {d e u : List ℕ} {n : ℕ} → Wrote d 0 u n e → n ≤ length e
wrote_fits {e = e} {n = n} w =
    omega (arith, (wrote_front w).0, ap length (wrote_front w).1, length-take n e)
