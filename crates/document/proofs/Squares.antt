-- The elimination of a coefficient square of bytes, as the algebra's: it makes the inverse, or it leads to a vector
-- other than zero that the square takes to zero.
--
-- vector l          : the list l as a vector over the bytes
-- Null m w M r l    : the vector of l is 1 at r < w, and M takes it to zero
-- Good m w M e      : what holds of M where the elimination of its lines ends with e
-- State m w M r a t : the elimination of M has come to the square a with the right half t, and r columns are done
use Rattle.std.specs.Prelude.{Option, Some, None, Ok, Err, is_err}
use mathlib.Core.Path.{◌≡◌, refl, sym, ap, ◌∙◌}
use mathlib.Core.Logic.{◌≢◌, ◌↔◌}
use mathlib.Core.Bool.{true, false, cond}
use mathlib.Core.List.{List}
use Prim.Native.Nat.{ℕ, zero, suc, ◌+◌, ◌≤◌, ◌<◌}
use native.Mathlib.Decide.{ℕ_discrete}
use native.Mathlib.Omega.{arith}
use lib.Dec.{eqb, ltb}
use lib.ListN.{get_or}
use borrow.Author.Tests.{lt-ltb, le-ltb, eq-eqb, ne_eqb}
use Rattle.lists.proofs.Listed.{listed_at}
use Rattle.algebra.specs.Square.{unit, Matrix, Solves, Kernel, Inverse, Step, Reached, Reduced, multiplier}
use Rattle.algebra.proofs.Square.{dot_zeros}
use Rattle.algebra.proofs.Elimination.{
  start,
  reached_step,
  finish,
  stuck_by,
  kept,
  cleared,
  lift_pivot,
  lift_reduced,
  lift_kept,
  no_kernel,
}
use Rattle.square.specs.declared.Line.{Line}
use Rattle.square.specs.Steps.{entry, stepped, lifted, multiplier_at, pivot_from}
use Rattle.square.specs.declared.Singular.{Singular}
use Rattle.square.specs.Elimination.{Eliminated, end_from, eliminated, lines_of, kernel_from}
use Rattle.square.proofs.Pivots.{Pivoted, pivoted, unpivoted}
use Rattle.square.proofs.Ends.{end_at, end_stuck}
use Rattle.document.specs.ByteField.{bytes, Byte, byte}
use Rattle.document.proofs.ByteField.{byte_zero, byte_one}
use Rattle.document.proofs.SquareSteps.{
  matrix_zero,
  matrix_nonzero,
  unit_multiplier,
  Taken,
  taken_shaped,
  taken_step,
  stepped_taken,
  lifted_same,
  lifted_taken,
  multiplier_byte,
}
use Rattle.document.proofs.SquareSteps.{matrix, Shaped, UnitShaped}

unfoldable pub vector : List ℕ → ℕ → Byte
vector l j = byte (get_or l j 0)

-- ---- the vector that is read off
module _ (w r : ℕ) (a : List Line) where
  -- Its entry j.
  abbrev kernel_entry : ℕ → ℕ
  kernel_entry j = cond (ltb j r) (entry a j r) (cond (eqb j r) 1 0)

  -- That entry, as it is read.
  kernel_entry_lem : (j : ℕ) → j < w → get_or (kernel_from w r a) j 0 ≡ kernel_entry j
  unfolding kernel_from
  kernel_entry_lem j h = listed_at w kernel_entry j 0 h

  -- Above r it is the column's.
  kernel_above : (j : ℕ) → j < w → j < r → get_or (kernel_from w r a) j 0 ≡ entry a j r
  kernel_above j h k = kernel_entry_lem j h ∙ rw (lt-ltb j r k)

  -- At r it is 1.
  kernel_at : r < w → get_or (kernel_from w r a) r 0 ≡ 1
  kernel_at h = kernel_entry_lem r h ∙ rw (le-ltb r r (omega arith), eq-eqb r r refl)

  -- Below r it is 0.
  kernel_under : (j : ℕ) → j < w → r < j → get_or (kernel_from w r a) j 0 ≡ 0
  kernel_under j h k = kernel_entry_lem j h ∙ rw (le-ltb j r (omega arith), ne_eqb j r (omega arith))

-- ---- how an elimination ends
module _ (m w : ℕ) (M : Matrix bytes) where
  pub record Null (r : ℕ) (l : List ℕ) : Type 0 where
    pub below : r < w
    pub one : vector l r ≡ bytes.𝟙
    pub kills : Solves bytes m w M (λ i. bytes.𝟘) (vector l)

  unfoldable Good : Eliminated → Type 0
  Good (Ok u) = Inverse bytes m w M (matrix u)
  Good (Err e) = Null e.column (kernel_from w e.column e.lines)

  -- The vector is not zero, so it is in the kernel.
  pub null_kernel : {r : ℕ} {l : List ℕ} → Null r l → Kernel bytes m w M
  null_kernel {r} {l} n = record {
    vector = vector l;
    at = r;
    below = n.below;
    nonzero = rw n.one bytes.one_ne_zero;
    kills = n.kills;
  }

  -- With r columns done.
  record State (r : ℕ) (a t : List Line) : Type 0 where
    shape : Shaped m w a
    beside : Shaped m m t
    reached : Reached bytes m w M (matrix a) (matrix t)
    reduced : Reduced bytes r m (matrix a)

  -- A line p below r is added to line r, so that there is a pivot in it.
  module _ (r p : ℕ) (a t : List Line) (h : r < p) (l : p < m) (k : r < w) (S : State r a t) where
    -- The step of the square.
    lift_taken : Taken (λ i. cond (eqb i r) 1 0) p m a (lifted r p a)
    lift_taken = lifted_taken r p m a (omega arith) (omega arith) S.shape.long

    -- The step of the right half.
    lift_beside : Taken (λ i. cond (eqb i r) 1 0) p m t (lifted r p t)
    lift_beside = lifted_taken r p m t (omega arith) (omega arith) S.beside.long

    -- As a step of the matrices.
    lift_step : Step bytes m w p (unit bytes r) (matrix a) (matrix (lifted r p a))
    lift_step = taken_step lift_taken S.shape (unit bytes r) (λ i q. unit_multiplier r i)

    -- As many columns are done as before.
    lift_state : State r (lifted r p a) (lifted r p t)
    lift_state = record {
      shape = taken_shaped lift_taken S.shape;
      beside = taken_shaped lift_beside S.beside;
      reached =
          reached_step bytes m w p (unit bytes r) M (matrix a) (matrix t) _ _ l (lift_kept bytes r p h) lift_step
          (taken_step lift_beside S.beside (unit bytes r) (λ i q. unit_multiplier r i)) S.reached;
      reduced = lift_reduced bytes r m w p (matrix a) _ h l k lift_step S.reduced;
    }

    -- The pivot is not zero.
    lift_nonzero : entry a r r ≡ 0 → entry a p r ≢ 0 → matrix (lifted r p a) r r ≢ bytes.𝟘
    lift_nonzero z n =
        lift_pivot bytes r m w p (matrix a) _ h l k lift_step (matrix_zero a r r z)
        (matrix_nonzero a S.shape.small p r n)

  -- A column is cleared by the pivot in line r.
  clear_state : (r : ℕ) (b u : List Line) → r < m → r < w → State r b u → matrix b r r ≢ bytes.𝟘
      → State (suc r) (stepped (multiplier_at b r r) r b m) (stepped (multiplier_at b r r) r u m)
  clear_state r b u l k S n = record {
    shape = taken_shaped taken S.shape;
    beside = taken_shaped taken_beside S.beside;
    reached =
        reached_step bytes m w r c M (matrix b) (matrix u) _ _ l (kept bytes r (matrix b) n) step
        (taken_step taken_beside S.beside c same) S.reached;
    reduced = cleared bytes r m w (matrix b) l k S.reduced n _ step;
  }
    where
      c : ℕ → Byte
      c = multiplier bytes r (matrix b)

      same : (i : ℕ) → i < m → byte (multiplier_at b r r i) ≡ c i
      same i q = multiplier_byte b r i S.shape.small

      taken : Taken (multiplier_at b r r) r m b (stepped (multiplier_at b r r) r b m)
      taken = stepped_taken (multiplier_at b r r) r m b S.shape.long

      taken_beside : Taken (multiplier_at b r r) r m u (stepped (multiplier_at b r r) r u m)
      taken_beside = stepped_taken (multiplier_at b r r) r m u S.beside.long

      step : Step bytes m w r c (matrix b) (matrix (stepped (multiplier_at b r r) r b m))
      step = taken_step taken S.shape c same

  -- One column more, by the pivot that was found.
  next_state : (r p : ℕ) (a t : List Line) → Pivoted a r r m p → r < w → State r a t
      → State (suc r)
      (stepped (multiplier_at (lifted r p a) r r) r (lifted r p a) m)
      (stepped (multiplier_at (lifted r p a) r r) r (lifted r p t) m)
  next_state r p a t P k S = go (ℕ_discrete p r)
    where
      go : Dec (p ≡ r)
          → State (suc r)
          (stepped (multiplier_at (lifted r p a) r r) r (lifted r p a) m)
          (stepped (multiplier_at (lifted r p a) r r) r (lifted r p t) m)
      go (yes e) =
          rw (lifted_same r p a e, lifted_same r p t e)
          (clear_state r a t (omega (arith, P.high)) k S (matrix_nonzero a S.shape.small r r
          (rw e at P.nonzero)))
      go (no e) =
          let h : r < p = omega (arith, P.low) in
          clear_state r (lifted r p a) (lifted r p t) (omega (arith, P.high)) k (lift_state r p a t h P.high k S)
          (lift_nonzero r p a t h P.high k S (P.above r (omega arith) h) P.nonzero)

  -- No pivot: the vector that is read off is taken to zero.
  stuck_null : (r : ℕ) (a t : List Line) → r < w → pivot_from a r r m ≡ None → State r a t
      → Null r (kernel_from w r a)
  unfolding vector matrix
  stuck_null r a t l e S = record {
    below = l;
    one = one;
    kills = S.reached.back (λ i. bytes.𝟘) (vector (kernel_from w r a)) (λ i k.
        stuck_by bytes r m w (matrix a) l S.reduced (λ i k h. ap byte (unpivoted a r r m e i h k) ∙ byte_zero)
        (vector (kernel_from w r a)) (λ j h. ap byte (kernel_above w r a j (omega arith) h)) one
        (λ j h k. ap byte (kernel_under w r a j k h) ∙ byte_zero) i k
        ∙ sym (dot_zeros bytes m (matrix t i)));
  }
    where
      one : vector (kernel_from w r a) r ≡ bytes.𝟙
      one = ap byte (kernel_at w r a l) ∙ byte_one

  -- Column by column, with n still to do.
  good : (n r : ℕ) → n + r ≡ w → r ≤ m → (a t : List Line) → State r a t → Good (end_from m n r a t)
  unfolding end_from Good
  good zero r e l a t S =
      let q : r ≡ w = omega arith in
      finish bytes m w M (matrix a) (matrix t) (omega arith) S.reached (rw q at S.reduced)
  good (suc n) r e l a t S = go (pivot_from a r r m) refl (good n (suc r) (omega arith))
    where
      go : (x : Option ℕ) → pivot_from a r r m ≡ x
          → (suc r ≤ m → (a t : List Line) → State (suc r) a t → Good (end_from m n (suc r) a t))
          → Good (end_from m (suc n) r a t)
      go (Some p) h next =
          let P : Pivoted a r r m p = pivoted a r r m p h in
          rw (end_at m r a t n p h)
          (next (omega (arith, P.low, P.high)) _ _ (next_state r p a t P (omega arith) S))
      go None h next = rw (end_stuck m r a t n h) (stuck_null r a t (omega arith) h S)

-- ---- the outcome
module _ {m w : ℕ} {s t : List Line} (S : Shaped m w s) (T : UnitShaped m t) where
  -- How the elimination of s with the right half t ends.
  ended : Good m w (matrix s) (eliminated m w s t)
  ended =
      good m w (matrix s) w 0 (omega arith) (omega arith) s t
      record {
        shape = S;
        beside = T.shape;
        reached = start bytes m w (matrix s) (matrix t) T.begins;
        reduced = record { one = λ j h. absurd (omega arith); off = λ i j k h d. absurd (omega arith) };
      }

  -- Each column has its pivot: the right half becomes the inverse.
  pub regular : {u : List Line} → eliminated m w s t ≡ Ok u → Inverse bytes m w (matrix s) (matrix u)
  unfolding Good
  regular e = rw e at ended

  -- A column has no pivot: the vector that is read off is taken to zero, and it is 1 there.
  pub stuck_kernel : {e : Singular} → eliminated m w s t ≡ Err e
      → Null m w (matrix s) e.column (kernel_from w e.column e.lines)
  unfolding Good
  stuck_kernel q = rw q at ended

  -- A column has no pivot exactly where the square takes some vector other than zero to zero.
  pub singular_kernel : (is_err (eliminated m w s t) ≡ true) ↔ Kernel bytes m w (matrix s)
  singular_kernel = go (eliminated m w s t) refl
    where
      go : (v : Eliminated) → eliminated m w s t ≡ v → (is_err v ≡ true) ↔ Kernel bytes m w (matrix s)
      go (Ok u) e =
          ((λ q. let z : ◌≡◌ {A = ℕ} 0 1 = cc in absurd (omega arith)), λ k. absurd (no_kernel bytes (regular e) k))
      go (Err e) q = ((λ z. null_kernel m w (matrix s) (stuck_kernel q)), λ k. refl)

-- no column without a pivot
pub not_singular : (v : Eliminated) → is_err v ≡ false → v ≡ Ok (lines_of v)
not_singular (Ok u) e = refl
not_singular (Err e) q = let z : ◌≡◌ {A = ℕ} 0 1 = cc in absurd (omega arith)
