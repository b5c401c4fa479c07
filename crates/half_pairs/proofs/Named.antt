-- The named nodes are a choice of k different nodes, and each stands at its position.
use mathlib.Core.Path.{◌≡◌, refl, sym, ap, ◌∙◌}
use mathlib.Core.Bool.{Bool, true, false, cond}
use mathlib.Core.List.{List}
use Prim.Native.Nat.{ℕ, zero, suc, ◌+◌, ◌*◌, ◌≤◌, ◌<◌}
use native.Mathlib.Decide.{ℕ_discrete, dec_lt}
use native.Mathlib.Omega.{arith}
use lib.Dec.{eqb, ltb}
use lib.ListN.{length, get_or, set, replicate, length-replicate, length-set, get_or-replicate}
use lib.Seq.{ext_get_or}
use borrow.Author.Tests.{lt-ltb, le-ltb, eq-eqb, ne_eqb}
use Rattle.lists.specs.Listed.{listed}
use Rattle.lists.proofs.Listed.{listed_length, listed_at, listed_ext}
use Rattle.ksets.specs.Sets.{RisingFrom, none, next, Rising}
use Rattle.ksets.proofs.Ranked.{risen_length}
use Rattle.algebra.specs.RowCode.{Choice}
use Rattle.algebra.specs.HalfPairs.{Positions}
use Rattle.square.proofs.Steps.{set_at}
use Rattle.document.specs.declared.Profile.{Profile}
use Rattle.document.specs.Profile.{Accepted}
use Rattle.document.specs.Places.{Within}
use Rattle.document.proofs.Bounds.{partner_within}
use Rattle.document.proofs.Joined.{rising_below}
use Rattle.document.proofs.Reading.{joined_within}
use Rattle.lists.specs.Positions.{position_in}
use Rattle.lists.proofs.Positions.{position_here, position_later, position_le, position_back}
use Rattle.half_pairs.specs.HalfPairs.{position_table, named, partner_at}

-- Entries of a rising list are not below its first bound.
rising_from : {n b k : ℕ} {xs : List ℕ} → RisingFrom n b k xs → (m : ℕ) → m < k → b ≤ get_or xs m 0
rising_from none m h = absurd (omega arith)
rising_from (next low high r) zero h = low
rising_from (next low high r) (suc m) h = omega (arith, rising_from r m (omega arith))

rising_apart : {n b k : ℕ} {xs : List ℕ} → RisingFrom n b k xs → (i j : ℕ) → i < j → j < k → get_or xs i 0 < get_or xs j 0
rising_apart none i j l h = absurd (omega arith)
rising_apart (next low high r) i zero l h = absurd (omega arith)
rising_apart (next low high r) zero (suc j) l h = omega (arith, rising_from r j (omega arith))
rising_apart (next low high r) (suc i) (suc j) l h = rising_apart r i j (omega arith) (omega arith)

pub named_choice : {n k : ℕ} {nodes : List ℕ} → Rising n k nodes → Choice k n (named nodes)
named_choice r = record {
  below = rising_below r;
  apart = λ i j l h e. let s = rising_apart r i j l h in omega arith;
}

-- The partner of a strip of their columns is a place of the profile.
pub joined_partner_within : (p : Profile) → Accepted p → (nodes : List ℕ) → Rising p.n p.k nodes
    → (z : ℕ) → z < p.k * p.a → Within p (partner_at p nodes z)
joined_partner_within p acc nodes rises z h = partner_within p acc _ (joined_within p acc nodes rises z h)

position_there : {n b k : ℕ} {xs : List ℕ} → RisingFrom n b k xs → (q : ℕ) → q < k → position_in xs (get_or xs q 0) ≡ q
position_there none q h = absurd (omega arith)
position_there (next {x = x} {xs = xs} low high r) zero h = position_here x xs x refl
position_there (next {x = x} {xs = xs} low high r) (suc q) h =
    let later : suc x ≤ get_or xs q 0 = rising_from r q (omega arith) in
    position_later x xs (get_or xs q 0) (λ e. omega arith) ∙ ap suc (position_there r q (omega arith))

pub named_positions : {n k : ℕ} {nodes : List ℕ} → Rising n k nodes → length nodes ≡ k
    → Positions k (named nodes) (position_in nodes)
named_positions {nodes = nodes} r e = record {
  there = position_there r;
  back = λ j h. position_back nodes j (rw e h);
}

pub table_length : (nodes : List ℕ) → length (position_table nodes) ≡ 24
unfolding position_table
table_length nodes = listed_length 24 _

pub table_at : (nodes : List ℕ) (j : ℕ) → j < 24 → get_or (position_table nodes) j 0 ≡ position_in nodes j
unfolding position_table
table_at nodes j h = listed_at 24 _ j 0 h

-- ---- the table while the nodes are gone through: q of them have their position, every other node has k
abbrev pub placed : ℕ → List ℕ → ℕ → ℕ → ℕ
placed k nodes q j = cond (ltb (position_in nodes j) q) (position_in nodes j) k

pub placed_none : (k : ℕ) (nodes : List ℕ) → replicate 24 k ≡ listed 24 (placed k nodes 0)
placed_none k nodes =
    ext_get_or 0 _ _ (length-replicate {A = ℕ} 24 k ∙ sym (listed_length 24 _))
    (λ j l.
    let h : j < 24 = omega (arith, l, length-replicate {A = ℕ} 24 k) in
    get_or-replicate 24 j k 0 h
    ∙ sym (listed_at 24 (placed k nodes 0) j 0 h
    ∙ ap (λ (b : Bool). cond b (position_in nodes j) k) (le-ltb (position_in nodes j) 0 (omega arith))))

module _ {n k : ℕ} {nodes : List ℕ} (r : Rising n k nodes) where
  pub placed_next : (q : ℕ) → q < k → named nodes q < 24
      → set (listed 24 (placed k nodes q)) (named nodes q) q ≡ listed 24 (placed k nodes (q + 1))
  placed_next q h below =
      ext_get_or 0 _ _ (length-set before (named nodes q) q ∙ size ∙ sym (listed_length 24 _))
      (λ j l.
      let inside : j < 24 = omega (arith, l, length-set before (named nodes q) q, size) in
      set_at before (named nodes q) q j (omega (arith, size))
      ∙ ap (λ (v : ℕ). cond (eqb j (named nodes q)) q v) (listed_at 24 (placed k nodes q) j 0 inside)
      ∙ go j (ℕ_discrete j (named nodes q)) (dec_lt (position_in nodes j) q)
      ∙ sym (listed_at 24 (placed k nodes (q + 1)) j 0 inside))
    where
      before : List ℕ
      before = listed 24 (placed k nodes q)

      size : length before ≡ 24
      size = listed_length 24 _

      go : (j : ℕ) → Dec (j ≡ named nodes q) → Dec (position_in nodes j < q)
          → cond (eqb j (named nodes q)) q (placed k nodes q j) ≡ placed k nodes (q + 1) j
      go j (yes d) t =
          let at : position_in nodes j ≡ q = ap (position_in nodes) d ∙ position_there r q h in
          rw (eq-eqb j (named nodes q) d, at, lt-ltb q (q + 1) (omega arith))
      go j (no d) (yes t) =
          let near : ltb (position_in nodes j) (q + 1) ≡ true = lt-ltb (position_in nodes j) (q + 1) (omega arith) in
          rw (ne_eqb j (named nodes q) d, lt-ltb (position_in nodes j) q t, near)
      go j (no d) (no t) =
          let far : ltb (position_in nodes j) (q + 1) ≡ false =
          le-ltb _ _ (other (ℕ_discrete (position_in nodes j) q)) in
          rw (ne_eqb j (named nodes q) d, le-ltb (position_in nodes j) q (omega arith), far)
        where
          other : Dec (position_in nodes j ≡ q) → q + 1 ≤ position_in nodes j
          other (yes same) =
              absurd (d (sym (position_back nodes j (omega (arith, risen_length r))) ∙ ap (named nodes) same))
          other (no differ) = omega arith

  pub placed_all : listed 24 (placed k nodes k) ≡ position_table nodes
  unfolding position_table
  placed_all = listed_ext 24 _ _ (λ j l. go j (dec_lt (position_in nodes j) k))
    where
      go : (j : ℕ) → Dec (position_in nodes j < k) → placed k nodes k j ≡ position_in nodes j
      go j (yes h) = rw (lt-ltb (position_in nodes j) k h)
      go j (no h) =
          rw (le-ltb (position_in nodes j) k (omega arith)) (omega (arith, position_le nodes j, risen_length r))
