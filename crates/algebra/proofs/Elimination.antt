-- The elimination of a matrix of m rows and w columns, column by column: where each column has a pivot it makes the
-- left inverse, and the first column without one gives a vector other than zero that the matrix takes to zero. One kind
-- of row step does all: to each row is added a multiple of one row. The laws hold of matrices that are given only below
-- m and w, so that a program that works in place can cite them.
use mathlib.Core.Path.{◌≡◌, refl, sym, ap₂, ◌∙◌}
use mathlib.Core.Logic.{◌≢◌}
use Prim.Native.Nat.{ℕ, suc, ◌≤◌, ◌<◌}
use native.Mathlib.Omega.{arith}
use native.Mathlib.Decide.{ℕ_discrete, dec_lt}
use Rattle.algebra.specs.Field.{Field}
use Rattle.algebra.specs.Pick.{pick}
use Rattle.algebra.specs.Square.{
  dot,
  unit,
  Matrix,
  image,
  Solves,
  Kernel,
  Inverse,
  Step,
  Reached,
  Reduced,
  multiplier,
}
use Rattle.algebra.proofs.Field.{
  ring,
  add-zero,
  zero-add,
  add_self,
  add_self_left,
  mul-zero,
  zero-mul,
  one-mul,
  mul-one,
  mul_assoc,
  mul_comm,
  add-mul,
  mul_eq_zero,
  eq_of_add,
  inv_ne_zero,
}
use Rattle.algebra.proofs.Pick.{pick_yes, pick_no}
use Rattle.algebra.proofs.Sum.{sum_zero, sum_one}
use Rattle.algebra.proofs.Square.{
  dot_ext,
  dot_combine,
  dot_add_right,
  dot_zeros,
  dot_unit,
  unit_at_lem,
  unit_off,
  dot_pick,
}

module _ (K : Field) where
  infixl 65 ◌⊕◌
  infixl 70 ◌⊗◌
  open K use {carrier as F, 𝟘, 𝟙, add as ◌⊕◌, mul as ◌⊗◌, inv, mul_inv, one_ne_zero}

  -- No step is taken yet; T is the unit matrix as far as it is given.
  pub start : (m w : ℕ) (M T : Matrix K) → ((i j : ℕ) → i < m → j < m → T i j ≡ unit K i j) → Reached K m w M M T
  start m w M T e = record { forth = λ b v h i l. h i l ∙ sym (same b i l); back = λ b v h i l. h i l ∙ same b i l }
    where
      same : (b : ℕ → F) (i : ℕ) → i < m → dot K m (T i) b ≡ b i
      same b i l =
          dot_unit K m i (T i) b l (e i i l l ∙ unit_at_lem K i) (λ j k n. e i j l k ∙ unit_off K i j n)

  -- A step adds the multiples of what row p gives.
  step_times : (m w p : ℕ) (c : ℕ → F) (M N : Matrix K) → Step K m w p c M N
      → (v : ℕ → F) (i : ℕ) → i < m → image K w N v i ≡ image K w M v i ⊕ c i ⊗ image K w M v p
  step_times m w p c M N s v i l = dot_ext K w (λ j h. s i j l h) (λ j h. refl) ∙ dot_combine K w (M i) (M p) v (c i)

  -- The sum of two equations that have been through a step.
  residual : (d e x y c : F) → d ⊕ c ⊗ e ≡ x ⊕ c ⊗ y → (d ⊕ x) ⊕ c ⊗ (e ⊕ y) ≡ 𝟘
  residual d e x y c h =
      let split : (d ⊕ x) ⊕ c ⊗ (e ⊕ y) ≡ (d ⊕ c ⊗ e) ⊕ (x ⊕ c ⊗ y) = simp ring in
      split ∙ rw (h, add_self)

  -- Vectors d and x that agree after a step agreed before it.
  undo : (m p : ℕ) (c d x : ℕ → F) → p < m → 𝟙 ⊕ c p ≢ 𝟘
      → ((i : ℕ) → i < m → d i ⊕ c i ⊗ d p ≡ x i ⊕ c i ⊗ x p) → (i : ℕ) → i < m → d i ≡ x i
  undo m p c d x l kept h i k = eq_of_add K (d i) (x i) (sym (rw (pivot, mul-zero, add-zero)) ∙ rest i k)
    where
      rest : (i : ℕ) → i < m → d i ⊕ x i ⊕ c i ⊗ (d p ⊕ x p) ≡ 𝟘
      rest i k = residual (d i) (d p) (x i) (x p) (c i) (h i k)

      factored : (r s : F) → (𝟙 ⊕ s) ⊗ r ≡ r ⊕ s ⊗ r
      factored r s = rw (add-mul, one-mul)

      pivot : d p ⊕ x p ≡ 𝟘
      pivot = mul_eq_zero K (𝟙 ⊕ c p) (d p ⊕ x p) kept (factored (d p ⊕ x p) (c p) ∙ rest p l)

  -- One step more, by which row p is not lost.
  pub reached_step : (m w p : ℕ) (c : ℕ → F) (M N T N' T' : Matrix K) → p < m → 𝟙 ⊕ c p ≢ 𝟘
      → Step K m w p c N N' → Step K m m p c T T' → Reached K m w M N T → Reached K m w M N' T'
  reached_step m w p c M N T N' T' l kept s t R = record { forth = forth; back = back }
    where
      forth : (b v : ℕ → F) → Solves K m w M b v → Solves K m w N' (image K m T' b) v
      forth b v h i k =
          step_times m w p c N N' s v i k ∙ ap₂ (λ x y. x ⊕ c i ⊗ y) (R.forth b v h i k) (R.forth b v h p l)
          ∙ sym (step_times m m p c T T' t b i k)

      back : (b v : ℕ → F) → Solves K m w N' (image K m T' b) v → Solves K m w M b v
      back b v h = R.back b v
          (undo m p c (image K w N v) (image K m T b) l kept
          (λ i k. sym (step_times m w p c N N' s v i k) ∙ h i k ∙ step_times m m p c T T' t b i k))

  -- All columns are done: the steps made the inverse.
  pub finish : (m w : ℕ) (M N T : Matrix K) → w ≤ m → Reached K m w M N T → Reduced K w m N → Inverse K m w M T
  finish m w M N T q R U = record {
    unique = λ b v h j l. sym (at v j l) ∙ R.forth b v h j (omega arith);
    solves = λ e b. R.back b (image K m T b) (λ i l. at (image K m T b) i (omega arith));
  }
    where
      at : (u : ℕ → F) (i : ℕ) → i < w → dot K w (N i) u ≡ u i
      at u i l = dot_unit K w i (N i) u l (U.one i l) (λ j k n. U.off i j (omega arith) k (λ e. n (sym e)))

  -- No pivot in column r: the column above r, with 1 at r, is taken to zero.
  module _ (r m w : ℕ) (M : Matrix K) (l : r < w) (U : Reduced K r m M)
      (z : (i : ℕ) → i < m → r ≤ i → M i r ≡ 𝟘) where
    -- Column r above row r, and zero from there on.
    abbrev column : ℕ → F
    column j = pick (dec_lt j r) (M j r) 𝟘

    -- It is zero from r on.
    column_under : (j : ℕ) → r ≤ j → column j ≡ 𝟘
    column_under j h = pick_no (dec_lt j r) _ _ (λ k. omega arith)

    -- Row i takes nothing from it off the diagonal.
    applied : (i j : ℕ) → i < m → j ≢ i → M i j ⊗ column j ≡ 𝟘
    applied i j k n = go (dec_lt j r)
      where
        go : (d : Dec (j < r)) → M i j ⊗ pick d (M j r) 𝟘 ≡ 𝟘
        go (yes q) = rw (U.off i j k q (λ e. n (sym e)), zero-mul)
        go (no q) = mul-zero K (M i j)

    -- So the matrix takes it to column r, which is zero from row r on.
    column_dot : (i : ℕ) → i < m → dot K w (M i) column ≡ M i r
    unfolding dot
    column_dot i k = go (dec_lt i r)
      where
        none : r ≤ i → (j : ℕ) → Dec (j ≡ i) → M i j ⊗ column j ≡ 𝟘
        none h j (yes e) = rw (column_under j (omega arith), mul-zero)
        none h j (no n) = applied i j k n

        go : Dec (i < r) → dot K w (M i) column ≡ M i r
        go (yes h) =
            sum_one K w i (λ j. M i j ⊗ column j) (omega arith) (λ j q n. applied i j k n)
            ∙ rw (U.one i h, one-mul) (pick_yes (dec_lt i r) _ _ h)
        go (no h) = sum_zero K w (λ j q. none (omega arith) j (ℕ_discrete j i)) ∙ sym (z i k (omega arith))

    -- The vector with 1 at r besides, which the matrix takes to column r twice.
    abbrev vector : ℕ → F
    vector j = unit K r j ⊕ column j

    -- In characteristic two that is zero.
    kills_vector : Solves K m w M (λ i. 𝟘) vector
    kills_vector i k =
        dot_add_right K w (M i) (unit K r) column ∙ ap₂ ◌⊕◌ (dot_pick K w r (M i) l) (column_dot i k)
        ∙ add_self K (M i r)

    -- Any vector with these values is taken to zero: the column above r, 1 at r, 0 below.
    pub stuck_by : (v : ℕ → F) → ((j : ℕ) → j < r → v j ≡ M j r) → v r ≡ 𝟙 → ((j : ℕ) → r < j → j < w → v j ≡ 𝟘)
        → Solves K m w M (λ i. 𝟘) v
    stuck_by v above one under i k =
        dot_ext K w (λ j h. refl) (λ j h. same j h (dec_lt j r) (ℕ_discrete j r)) ∙ kills_vector i k
      where
        same : (j : ℕ) → j < w → (d : Dec (j < r)) (e : Dec (j ≡ r)) → v j ≡ pick e 𝟙 𝟘 ⊕ pick d (M j r) 𝟘
        same j h (yes d) (yes e) = absurd (omega arith)
        same j h (yes d) (no e) = above j d ∙ sym (zero-add K (M j r))
        same j h (no d) (yes e) = rw e one ∙ sym (add-zero K 𝟙)
        same j h (no d) (no e) = under j (omega arith) h ∙ sym (add-zero K 𝟘)

  module _ (r : ℕ) (M : Matrix K) where
    -- The multiplier of the pivot's own row.
    pub multiplier_at_lem : multiplier K r M r ≡ 𝟙 ⊕ inv (M r r)
    unfolding multiplier
    multiplier_at_lem = pick_yes (ℕ_discrete r r) _ _ refl

    -- The multipliers of the other rows.
    pub multiplier_off : (i : ℕ) → i ≢ r → multiplier K r M i ≡ M i r ⊗ inv (M r r)
    unfolding multiplier
    multiplier_off i d = pick_no (ℕ_discrete i r) _ _ d

    -- A pivot's row is not lost.
    pub kept : M r r ≢ 𝟘 → 𝟙 ⊕ multiplier K r M r ≢ 𝟘
    kept n = rw (multiplier_at_lem, add_self_left) (inv_ne_zero K (M r r) n)

  -- What the step makes of the pivot.
  expand : (a b : F) → a ⊕ (𝟙 ⊕ b) ⊗ a ≡ a ⊗ b
  expand a b = simp ring

  -- The pivot of column r is not zero: one step makes the column a unit column.
  module _ (r m w : ℕ) (M : Matrix K) (l : r < m) (t : r < w) (U : Reduced K r m M) (n : M r r ≢ 𝟘)
      (N : Matrix K) (s : Step K m w r (multiplier K r M) M N) where
    -- A column that is done stays as it is.
    done : (i j : ℕ) → i < m → j < r → N i j ≡ M i j
    done i j k h = s i j k (omega arith) ∙ rw (U.off r j l h (omega arith), mul-zero, add-zero)

    -- The pivot becomes 1.
    pivot_one : N r r ≡ 𝟙
    pivot_one = s r r l t ∙ rw (multiplier_at_lem r M) (expand (M r r) (inv (M r r)) ∙ mul_inv (M r r) n)

    -- The rest of its column becomes 0.
    pivot_off : (i : ℕ) → i < m → i ≢ r → N i r ≡ 𝟘
    pivot_off i k d =
        let whole : inv (M r r) ⊗ M r r ≡ 𝟙 = mul_comm K (inv (M r r)) (M r r) ∙ mul_inv (M r r) n in
        s i r k t ∙ rw (multiplier_off r M i d, mul_assoc, whole, mul-one, add_self)

    -- One more column is done, and those before it stay so.
    pub cleared : Reduced K (suc r) m N
    cleared = record { one = λ j h. one j h (ℕ_discrete j r); off = λ i j k h d. off i j k h d (ℕ_discrete j r) }
      where
        one : (j : ℕ) → j < suc r → Dec (j ≡ r) → N j j ≡ 𝟙
        one j h (yes e) = rw e pivot_one
        one j h (no d) = done j j (omega arith) (omega arith) ∙ U.one j (omega arith)

        off : (i j : ℕ) → i < m → j < suc r → i ≢ j → Dec (j ≡ r) → N i j ≡ 𝟘
        off i j k h d (yes e) = rw e (pivot_off i k (λ q. d (q ∙ sym e)))
        off i j k h d (no q) = done i j k (omega arith) ∙ U.off i j k (omega arith) d

  -- The pivot is zero: a row p below r with an entry in column r is added to row r.
  module _ (r m w p : ℕ) (M N : Matrix K) (h : r < p) (l : p < m) (t : r < w) (s : Step K m w p (unit K r) M N) where
    -- The pivot is then that entry.
    pub lift_pivot : M r r ≡ 𝟘 → M p r ≢ 𝟘 → N r r ≢ 𝟘
    lift_pivot e n = rw (s r r (omega arith) t, e, unit_at_lem K r, one-mul, zero-add) n

    -- The columns that are done stay so.
    pub lift_reduced : Reduced K r m M → Reduced K r m N
    lift_reduced U = record {
      one = λ j k. same j j (omega arith) k ∙ U.one j k;
      off = λ i j a b d. same i j a b ∙ U.off i j a b d;
    }
      where
        same : (i j : ℕ) → i < m → j < r → N i j ≡ M i j
        same i j q k = s i j q (omega arith) ∙ rw (U.off p j l k (omega arith), mul-zero, add-zero)

  -- Row p is not lost by it.
  pub lift_kept : (r p : ℕ) → r < p → 𝟙 ⊕ unit K r p ≢ 𝟘
  lift_kept r p h = rw (unit_off K r p (omega arith), add-zero) one_ne_zero

  -- A matrix with a left inverse takes no vector other than zero to zero.
  pub no_kernel : {m w : ℕ} {M T : Matrix K} → Inverse K m w M T → Kernel K m w M → ⊥
  no_kernel {m} {w} {M} {T} I k =
      k.nonzero (I.unique (λ i. 𝟘) k.vector k.kills k.at k.below ∙ dot_zeros K m (T k.at))

  -- The kernel is that of any matrix with the same entries.
  pub kernel_ext : {m w : ℕ} {M N : Matrix K} → ((i j : ℕ) → i < m → j < w → M i j ≡ N i j)
      → Kernel K m w M → Kernel K m w N
  kernel_ext {m} {w} e k = record {
    vector = k.vector;
    at = k.at;
    below = k.below;
    nonzero = k.nonzero;
    kills = λ i l. dot_ext K w (λ j h. sym (e i j l h)) (λ j h. refl) ∙ k.kills i l;
  }

  -- The inverse is that of any matrix with the same entries, and any matrix with its entries is it too.
  pub inverse_ext : {m w : ℕ} {M N T S : Matrix K} → ((i j : ℕ) → i < m → j < w → M i j ≡ N i j)
      → ((i j : ℕ) → i < w → j < m → T i j ≡ S i j) → Inverse K m w M T → Inverse K m w N S
  inverse_ext {m} {w} {M} {N} {T} {S} e f I = record {
    unique = λ b v h j l. I.unique b v (λ i k. left v i k ∙ h i k) j l ∙ right b j l;
    solves = λ q b i k.
        dot_ext K w (λ j h. sym (e i j k h)) (λ j h. sym (right b j h)) ∙ I.solves q b i k;
  }
    where
      left : (v : ℕ → F) (i : ℕ) → i < m → image K w M v i ≡ image K w N v i
      left v i k = dot_ext K w (λ j h. e i j k h) (λ j h. refl)

      right : (b : ℕ → F) (i : ℕ) → i < w → image K m T b i ≡ image K m S b i
      right b i k = dot_ext K m (λ j h. f i j k h) (λ j h. refl)
