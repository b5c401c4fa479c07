-- The entries of the small system, as they are computed, and its verdict.
use Rattle.std.specs.Prelude.{Ok, Err, is_err}
use mathlib.Core.Path.{◌≡◌, refl, sym, ap, ap₂, subst, ◌∙◌}
use mathlib.Core.Bool.{Bool, true, false, cond}
use mathlib.Core.List.{List}
use Prim.Native.Nat.{ℕ, ◌*◌, ◌/◌, ◌%◌, ◌≤◌, ◌<◌}
use native.Mathlib.Decide.{ℕ_discrete, dec_lt}
use native.Mathlib.Omega.{arith}
use lib.Dec.{eqb, ltb}
use lib.ListN.{length, get_or, set, take, replicate}
use lib.ListN.{length-replicate, length-take, length-set, get_or-replicate}
use lib.Seq.{ext_get_or}
use borrow.Author.Tests.{lt-ltb, le-ltb, ltb-false, eq-eqb, ne_eqb}
use Rattle.lists.specs.Listed.{listed}
use Rattle.lists.proofs.Listed.{listed_length, listed_at, listed_holds, replicate_holds}
use Rattle.lists.proofs.Put.{wrote_front}
use Rattle.lists.proofs.Rising.{rising_length}
use Rattle.ksets.specs.Sets.{Rising}
use Rattle.gf256.specs.Field.{◌⊕◌}
use Rattle.algebra.specs.Square.{unit, Inverse}
use Rattle.algebra.specs.HalfPairs.{weight_at, half_factor, partner_coefficient, system}
use Rattle.algebra.proofs.Field.{zero-add}
use Rattle.algebra.proofs.Elimination.{kernel_ext, inverse_ext}
use Rattle.algebra.proofs.Pick.{pick_yes, pick_no}
use Rattle.square.specs.declared.Line.{Line}
use Rattle.square.specs.declared.Singular.{Singular}
use Rattle.square.specs.Steps.{no_line, line_at, entry, filled, unit_square}
use Rattle.square.specs.Elimination.{Eliminated, eliminated}
use Rattle.square.proofs.Steps.{filled_at, filled_rest, filled_length, set_at}
use Rattle.document.specs.declared.Profile.{Profile}
use Rattle.document.specs.declared.Place.{Place}
use Rattle.document.specs.Profile.{Accepted}
use Rattle.document.specs.ByteField.{bytes, Byte, byte, number}
use Rattle.document.specs.Encoding.{factor_at}
use Rattle.document.specs.Reading.{ambiguous}
use Rattle.document.proofs.Bounds.{square_bound}
use Rattle.document.proofs.ByteField.{number_lt, byte_number, number_zero, number_one, number_add}
use Rattle.document.proofs.SquareSteps.{matrix, Shaped, unit_square_lem}
use Rattle.document.proofs.Squares.{regular, stuck_kernel, null_kernel}
use Rattle.lists.specs.Positions.{position_in}
use Rattle.half_pairs.specs.declared.HalfPairs.{HalfPairs}
use Rattle.half_pairs.specs.HalfPairs.{
  named,
  is_named,
  partner_at,
  is_half_pair,
  half_pairs,
  half_pair_at,
  coefficient_in,
  system_at,
  system_line,
  system_square,
  system_end,
  HalfPairsOf,
}
use Rattle.half_pairs.proofs.Symbols.{U, inverse_clear, kernel_ambiguous}

-- a line of zeros
abbrev blank : Line
blank = record { c = replicate 80 0 }

module _ (p : Profile) (nodes : List ℕ) where
  open p use {k, a as A}

  -- at the partner of strip z it is the algebra's
  coefficient_is : (z y : ℕ)
      → coefficient_in p nodes (partner_at p nodes z) y
      ≡ partner_coefficient bytes A k byte (factor_at p) (named nodes) (position_in nodes) z y
  unfolding coefficient_in partner_coefficient
  coefficient_is z y = refl

  -- strips of other rows have no part in it
  pub coefficient_row : (r : Place) (y : ℕ) → (y % A ≡ r.row.0 → ⊥) → 0 ≡ number (coefficient_in p nodes r y)
  unfolding coefficient_in
  coefficient_row r y d = sym (ap number (pick_no (ℕ_discrete (y % A) r.row.0) _ _ d) ∙ number_zero)

  -- a half pair of the row
  pub coefficient_part : (r : Place) (y : ℕ) → y % A ≡ r.row.0
      → is_named k nodes (partner_at p nodes y).node.0 ≡ false
      → coefficient_in p nodes r y
      ≡ bytes.mul (factor_at p (y % A) (named nodes (y / A) % A)) (weight_at bytes k byte (named nodes) (y / A) r.node.0)
  unfolding coefficient_in half_factor
  coefficient_part r y e other =
      let far : k ≤ position_in nodes (partner_at p nodes y).node.0 = ltb-false _ _ other in
      pick_yes (ℕ_discrete (y % A) r.row.0) _ _ e
      ∙ ap (λ (c : Byte). bytes.mul c (weight_at bytes k byte (named nodes) (y / A) r.node.0))
      (pick_no (dec_lt (position_in nodes (partner_at p nodes y).node.0) k) _ _ (λ h. omega arith))

  -- ---- a line
  -- its entries before 1 is added to the strip's own
  abbrev pub coefficient_entry : ℕ → ℕ → ℕ
  coefficient_entry e f = number (coefficient_in p nodes (partner_at p nodes (half_pair_at p nodes e)) (half_pair_at p nodes f))

  pub line_done : (e : ℕ) → e < U p nodes → U p nodes ≤ 80 → (c : List ℕ)
      → c ≡ filled (coefficient_entry e) (replicate 80 0) (U p nodes)
      → set c e (get_or c e 0 ⊕ 1) ≡ system_line p nodes e
  unfolding system_line system
  line_done e h few c made =
      ext_get_or 0 _ _ (length-set c e _ ∙ size ∙ sym (listed_length 80 _))
      (λ f l. at f (omega (arith, l, length-set c e (get_or c e 0 ⊕ 1), size)))
    where
      size : length c ≡ 80
      size =
          ap length made ∙ filled_length (coefficient_entry e) (replicate 80 0) (U p nodes)
          ∙ length-replicate {A = ℕ} 80 0

      wanted : ℕ → ℕ
      wanted f = cond (ltb f (U p nodes)) (number (system_at p nodes e f)) 0

      at : (f : ℕ) → f < 80 → get_or (set c e (get_or c e 0 ⊕ 1)) f 0 ≡ get_or (listed 80 wanted) f 0
      at f l =
          set_at c e (get_or c e 0 ⊕ 1) f (omega (arith, size, few)) ∙ go (ℕ_discrete f e) (dec_lt f (U p nodes))
          ∙ sym (listed_at 80 wanted f 0 l)
        where
          rel : Byte
          rel = coefficient_in p nodes (partner_at p nodes (half_pair_at p nodes e)) (half_pair_at p nodes f)

          inside : f < U p nodes → get_or c f 0 ≡ number rel
          inside t =
              ap (λ (x : List ℕ). get_or x f 0) made
              ∙ filled_at (coefficient_entry e) (replicate 80 0) (U p nodes) f 0 t
              (omega (arith, few, length-replicate {A = ℕ} 80 0))

          outside : U p nodes ≤ f → get_or c f 0 ≡ 0
          outside t =
              ap (λ (x : List ℕ). get_or x f 0) made
              ∙ filled_rest (coefficient_entry e) (replicate 80 0) (U p nodes) f 0 t ∙ get_or-replicate 80 f 0 0 l

          entry_is : f < U p nodes → number (bytes.add (unit bytes e f) rel) ≡ wanted f
          entry_is t =
              ap (λ (x : Byte). number (bytes.add (unit bytes e f) x))
              (coefficient_is (half_pair_at p nodes e) (half_pair_at p nodes f))
              ∙ sym (ap (λ (b : Bool). cond b (number (system_at p nodes e f)) 0) (lt-ltb f (U p nodes) t))

          go : Dec (f ≡ e) → Dec (f < U p nodes) → cond (eqb f e) (get_or c e 0 ⊕ 1) (get_or c f 0) ≡ wanted f
          go (yes d) t =
              let below : f < U p nodes = omega (arith, d, h) in
              ap (λ (b : Bool). cond b (get_or c e 0 ⊕ 1) (get_or c f 0)) (eq-eqb f e d)
              ∙ ap (λ (m : ℕ). get_or c m 0 ⊕ 1) (sym d) ∙ ap₂ ◌⊕◌ (inside below) (sym number_one)
              ∙ sym (number_add rel bytes.𝟙) ∙ ap number (bytes.add_comm rel bytes.𝟙)
              ∙ ap (λ (x : Byte). number (bytes.add x rel)) (sym (pick_yes (ℕ_discrete f e) _ _ d)) ∙ entry_is below
          go (no d) (yes t) =
              ap (λ (b : Bool). cond b (get_or c e 0 ⊕ 1) (get_or c f 0)) (ne_eqb f e d) ∙ inside t
              ∙ ap number (sym (zero-add bytes rel))
              ∙ ap (λ (x : Byte). number (bytes.add x rel)) (sym (pick_no (ℕ_discrete f e) _ _ d)) ∙ entry_is t
          go (no d) (no t) =
              let far : U p nodes ≤ f = omega arith in
              ap (λ (b : Bool). cond b (get_or c e 0 ⊕ 1) (get_or c f 0)) (ne_eqb f e d) ∙ outside far
              ∙ sym (ap (λ (b : Bool). cond b (number (system_at p nodes e f)) 0) (le-ltb f (U p nodes) far))

  -- ---- the square
  abbrev made : ℕ → Line
  made e = record { c = system_line p nodes e }

  -- a line of it
  square_line : U p nodes ≤ 80 → (e : ℕ) → e < U p nodes → line_at (system_square p nodes) e ≡ system_line p nodes e
  unfolding system_square
  square_line few e h =
      ap (λ (l : Line). l.c)
      (filled_at made (replicate 80 blank) (U p nodes) e no_line h
      (omega (arith, few, length-replicate {A = Line} 80 blank)))

  line_length : (e : ℕ) → length (system_line p nodes e) ≡ 80
  unfolding system_line
  line_length e = listed_length 80 _

  line_at_lem : U p nodes ≤ 80 → (e f : ℕ) → f < U p nodes → get_or (system_line p nodes e) f 0 ≡ number (system_at p nodes e f)
  unfolding system_line
  line_at_lem few e f h =
      listed_at 80 _ f 0 (omega arith)
      ∙ ap (λ (b : Bool). cond b (number (system_at p nodes e f)) 0) (lt-ltb f (U p nodes) h)

  -- each entry is a byte, a missing one too
  line_small : (e f : ℕ) → get_or (system_line p nodes e) f 0 < 256
  unfolding system_line
  line_small e =
      listed_holds (λ (v : ℕ). v < 256) 0 (omega arith) 80 (λ f. cond (ltb f (U p nodes)) (number (system_at p nodes e f)) 0)
      (λ f. byte_or_none (ltb f (U p nodes)) f)
    where
      byte_or_none : (b : Bool) (f : ℕ) → cond b (number (system_at p nodes e f)) 0 < 256
      byte_or_none true f = number_lt _
      byte_or_none false f = omega arith

  square_small : U p nodes ≤ 80 → (e f : ℕ) → entry (system_square p nodes) e f < 256
  unfolding system_square
  square_small few e f = go (dec_lt e (U p nodes))
    where
      Small : List ℕ → Type 0
      Small l = get_or l f 0 < 256

      go : Dec (e < U p nodes) → Small (line_at (system_square p nodes) e)
      go (yes h) = subst Small (sym (square_line few e h)) (line_small e f)
      go (no h) =
          subst Small
          (sym (ap (λ (l : Line). l.c)
          (filled_rest made (replicate 80 blank) (U p nodes) e no_line (omega arith))))
          (replicate_holds (λ (l : Line). Small l.c) no_line (omega arith) 80 blank
          (replicate_holds (λ (v : ℕ). v < 256) 0 (omega arith) 80 0 (omega arith) f) e)

  pub system_shaped : U p nodes ≤ 80 → Shaped (U p nodes) (U p nodes) (system_square p nodes)
  unfolding system_square
  system_shaped few = record {
    long =
        omega (arith, few, filled_length made (replicate 80 blank) (U p nodes), length-replicate {A = Line} 80 blank);
    wide = λ e h. omega (arith, few, ap length (square_line few e h) ∙ line_length e);
    small = square_small few;
  }

  pub system_matrix : U p nodes ≤ 80 → (e f : ℕ) → e < U p nodes → f < U p nodes
      → matrix (system_square p nodes) e f ≡ system_at p nodes e f
  unfolding matrix
  system_matrix few e f h l =
      ap (λ (x : List ℕ). byte (get_or x f 0)) (square_line few e h) ∙ ap byte (line_at_lem few e f l) ∙ byte_number _

  -- ---- its verdict tells whether the nodes are ambiguous
  module _ (acc : Accepted p) (rises : Rising p.n k nodes) where
    pub few_halves : U p nodes ≤ 80
    unfolding half_pairs
    few_halves = omega (arith, rising_length (is_half_pair p nodes) (k * A), square_bound p acc)

    pub stuck_ambiguous : {e : Singular} → system_end p nodes ≡ Err e → ambiguous p nodes ≡ true
    stuck_ambiguous e =
        kernel_ambiguous p nodes acc rises
        (kernel_ext bytes (system_matrix few_halves)
        (null_kernel _ _ _ (stuck_kernel (system_shaped few_halves) (unit_square_lem 80 few_halves) e)))

    -- and the lines are those of the inverse
    pub regular_inverse : {u : List Line} → system_end p nodes ≡ Ok u
        → Inverse bytes (U p nodes) (U p nodes) (system_at p nodes) (matrix u)
    regular_inverse e =
        inverse_ext bytes (system_matrix few_halves) (λ i j h l. refl)
        (regular (system_shaped few_halves) (unit_square_lem 80 few_halves) e)

    pub regular_clear : {u : List Line} → system_end p nodes ≡ Ok u → ambiguous p nodes ≡ false
    regular_clear e = inverse_clear p nodes acc rises (regular_inverse e)

    pub end_ambiguous : is_err (system_end p nodes) ≡ ambiguous p nodes
    end_ambiguous = go (system_end p nodes) refl
      where
        go : (v : Eliminated) → system_end p nodes ≡ v → is_err v ≡ ambiguous p nodes
        go (Ok u) e = sym (regular_clear e)
        go (Err d) e = sym (stuck_ambiguous e)

-- ---- as the code has it
module _ {p : Profile} {nodes : List ℕ} {h : HalfPairs} (made : HalfPairsOf p nodes h) where
  pub count_few : Accepted p → Rising p.n p.k nodes → h.count ≤ 80
  count_few acc rises = omega (arith, few_halves p nodes acc rises, made.count)

  pub halves_front : take h.count h.halves ≡ half_pairs p nodes
  halves_front = (wrote_front {n = h.count} (record { ends = omega (arith, made.count); holds = made.halves })).1

  pub halves_fit : h.count ≤ length h.halves
  halves_fit = omega (arith, made.count, ap length halves_front, length-take h.count h.halves)

  pub system_end_lem : {lines : List Line} → lines ≡ system_square p nodes
      → eliminated h.count h.count lines (unit_square 80) ≡ system_end p nodes
  system_end_lem e = rw (made.count, e)
