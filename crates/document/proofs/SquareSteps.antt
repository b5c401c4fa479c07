-- A coefficient square of bytes as a matrix over them, and its steps as those of the matrix.
--
-- matrix s        : the lines of s as a matrix over the bytes
-- Small s         : each entry of s is a byte
-- Shaped m w s    : s has at least m lines, those with at least w entries, and all entries are bytes
-- UnitShaped m t  : t has at least m lines of at least m entries, bytes all, and begins with the unit matrix
-- Taken c p m s b : b comes from s by adding c i times line p to each line i below m
use mathlib.Core.Path.{◌≡◌, refl, sym, ap, ap₂, ◌∙◌}
use mathlib.Core.Logic.{◌≢◌}
use mathlib.Core.Bool.{Bool, true, false, cond}
use mathlib.Core.List.{List}
use Prim.Native.Nat.{ℕ, ◌≤◌, ◌<◌}
use native.Mathlib.Decide.{ℕ_discrete, dec_lt}
use native.Mathlib.Omega.{arith}
use lib.Dec.{eqb}
use lib.ListN.{length, get_or, set, length-set}
use lib.Seq.{get_or-set_same, get_or-set_other}
use borrow.Author.Tests.{eq-eqb, ne_eqb}
use Rattle.lists.proofs.Listed.{listed_length, listed_at, get_or_holds, listed_holds}
use Rattle.gf256.specs.Field.{◌⊕◌, ◌⊗◌, inverse}
use Rattle.gf256.proofs.Ring.{add_lt, mul_lt, inverse_lt}
use Rattle.algebra.specs.Square.{unit, Step, multiplier}
use Rattle.algebra.proofs.Square.{unit_at_lem, unit_off}
use Rattle.algebra.proofs.Elimination.{multiplier_at_lem, multiplier_off}
use Rattle.strips.specs.Strips.{added_scaled}
use Rattle.square.specs.declared.Line.{Line}
use Rattle.square.specs.Steps.{no_line, line_at, entry, stepped, lifted, multiplier_at, unit_line, unit_square}
use Rattle.strips.proofs.Added.{added_length, added_at_lem, added_none}
use Rattle.square.proofs.Steps.{stepped_length, stepped_at, stepped_rest}
use Rattle.document.specs.ByteField.{bytes, Byte, byte}
use Rattle.document.proofs.ByteField.{byte_zero, byte_one, byte_add, byte_mul, byte_inv, byte_ne}

unfoldable pub matrix : List Line → ℕ → ℕ → Byte
matrix s i j = byte (entry s i j)

abbrev pub Small : List Line → Type 0
Small s = (i j : ℕ) → entry s i j < 256

pub record Shaped (m w : ℕ) (s : List Line) : Type 0 where
  pub long : m ≤ length s
  pub wide : (i : ℕ) → i < m → w ≤ length (line_at s i)
  pub small : Small s

pub record UnitShaped (m : ℕ) (t : List Line) : Type 0 where
  pub shape : Shaped m m t
  pub begins : (i j : ℕ) → i < m → j < m → matrix t i j ≡ unit bytes i j

-- A zero of the square is one of the matrix.
pub matrix_zero : (s : List Line) (i j : ℕ) → entry s i j ≡ 0 → matrix s i j ≡ bytes.𝟘
unfolding matrix
matrix_zero s i j e = ap byte e ∙ byte_zero

-- Any other entry is none.
pub matrix_nonzero : (s : List Line) → Small s → (i j : ℕ) → entry s i j ≢ 0 → matrix s i j ≢ bytes.𝟘
unfolding matrix
matrix_nonzero s small i j n = byte_ne (entry s i j) (small i j) n

-- The bytes of 1 at r and 0 elsewhere are the unit vector.
pub unit_multiplier : (r i : ℕ) → byte (cond (eqb i r) 1 0) ≡ unit bytes r i
unit_multiplier r i = go (ℕ_discrete i r)
  where
    go : Dec (i ≡ r) → byte (cond (eqb i r) 1 0) ≡ unit bytes r i
    go (yes e) = rw (eq-eqb i r e) (byte_one ∙ sym (rw e (unit_at_lem bytes r)))
    go (no n) = rw (ne_eqb i r n) (byte_zero ∙ sym (unit_off bytes r i n))

-- ---- the unit square
module _ (q : ℕ) where
  -- It has q lines.
  pub unit_square_length : length (unit_square q) ≡ q
  unfolding unit_square
  unit_square_length = listed_length q (λ i. record { c = unit_line q i })

  -- Its lines.
  pub unit_square_at : (r : ℕ) → r < q → line_at (unit_square q) r ≡ unit_line q r
  unfolding unit_square
  unit_square_at r h = ap (λ (x : Line). x.c) (listed_at q (λ i. record { c = unit_line q i }) r no_line h)

  -- Each has q entries.
  pub unit_line_length : (r : ℕ) → length (unit_line q r) ≡ q
  unfolding unit_line
  unit_line_length r = listed_length q (λ j. cond (eqb j r) 1 0)

  -- In line r there is 1 at r, and 0 elsewhere.
  pub unit_line_at : (r j : ℕ) → j < q → get_or (unit_line q r) j 0 ≡ cond (eqb j r) 1 0
  unfolding unit_line
  unit_line_at r j h = listed_at q (λ j. cond (eqb j r) 1 0) j 0 h

  -- Each entry is a byte, a missing one too.
  unit_small : Small (unit_square q)
  unfolding unit_square unit_line
  unit_small i j =
      listed_holds (λ (x : Line). get_or x.c j 0 < 256) no_line (omega arith) q (λ i. record { c = unit_line q i })
      (λ i. listed_holds (λ (v : ℕ). v < 256) 0 (omega arith) q (λ j. cond (eqb j i) 1 0) (λ j. bit (eqb j i)) j) i
    where
      bit : (b : Bool) → cond b 1 0 < 256
      bit true = omega arith
      bit false = omega arith

-- The unit square of q ≥ m lines can stand beside a square of m lines.
pub unit_square_lem : {m : ℕ} (q : ℕ) → m ≤ q → UnitShaped m (unit_square q)
unfolding matrix
unit_square_lem q l = record {
  shape = record {
    long = omega (arith, unit_square_length q);
    wide = λ i h. rw (unit_square_at q i (omega arith), unit_line_length) l;
    small = unit_small q;
  };
  begins = λ i j h k.
      ap (λ (x : List ℕ). byte (get_or x j 0)) (unit_square_at q i (omega arith))
      ∙ ap byte (unit_line_at q i j (omega arith)) ∙ unit_multiplier i j;
}

-- ---- a step
-- A multiple of a line added to a line of bytes leaves bytes.
added_small : (f : ℕ) (ys xs : List ℕ) → ((j : ℕ) → get_or xs j 0 < 256)
    → (j : ℕ) → get_or (added_scaled f 0 ys xs) j 0 < 256
added_small f ys xs small =
    get_or_holds (λ (v : ℕ). v < 256) 0 (omega arith) (added_scaled f 0 ys xs)
    (λ j l.
    let below : j < length xs = omega (arith, added_length f 0 ys xs) in
    rw (added_at_lem f ys xs j below) (add_lt (small j) (mul_lt f (get_or ys j 0))))

-- b comes from s by adding c i times line p to each line i below m.
pub record Taken (c : ℕ → ℕ) (p m : ℕ) (s b : List Line) : Type 0 where
  pub size : length b ≡ length s
  pub line : (i : ℕ) → i < m → line_at b i ≡ added_scaled (c i) 0 (line_at s p) (line_at s i)
  pub rest : (i : ℕ) → m ≤ i → line_at b i ≡ line_at s i

module _ {c : ℕ → ℕ} {p m w : ℕ} {s b : List Line} (t : Taken c p m s b) (S : Shaped m w s) where
  -- The shape stays.
  pub taken_shaped : Shaped m w b
  taken_shaped = record {
    long = omega (arith, t.size, S.long);
    wide = λ i h. rw (t.line i h, added_length) (S.wide i h);
    small = λ i j. go i j (dec_lt i m);
  }
    where
      go : (i j : ℕ) → Dec (i < m) → entry b i j < 256
      go i j (yes h) = rw (t.line i h) (added_small (c i) (line_at s p) (line_at s i) (S.small i) j)
      go i j (no h) = rw (t.rest i (omega arith)) (S.small i j)

  -- Of the matrices it is a step, by the bytes of the multipliers.
  pub taken_step : (f : ℕ → Byte) → ((i : ℕ) → i < m → byte (c i) ≡ f i) → Step bytes m w p f (matrix s) (matrix b)
  unfolding matrix
  taken_step f e i j h k =
      ap byte
      (ap (λ (x : List ℕ). get_or x j 0) (t.line i h)
      ∙ added_at_lem (c i) (line_at s p) (line_at s i) j (omega (arith, S.wide i h)))
      ∙ byte_add (entry s i j) (c i ⊗ entry s p j) (S.small i j) (mul_lt (c i) (entry s p j))
      ∙ ap (bytes.add (byte (entry s i j)))
      (byte_mul (c i) (entry s p j) ∙ ap (λ (x : Byte). bytes.mul x (byte (entry s p j))) (e i h))

-- The step of the whole square is one.
pub stepped_taken : (c : ℕ → ℕ) (p m : ℕ) (s : List Line) → m ≤ length s → Taken c p m s (stepped c p s m)
stepped_taken c p m s l = record {
  size = stepped_length c p s m;
  line = λ i h. stepped_at c p s m i h l;
  rest = λ i h. stepped_rest c p s m i h;
}

-- A pivot in line r itself needs no step.
pub lifted_same : (r p : ℕ) (s : List Line) → p ≡ r → lifted r p s ≡ s
unfolding lifted
lifted_same r p s e = rw (eq-eqb p r e)

-- A lower line added to line r is one too: with the multiplier 1 there, and 0 elsewhere.
pub lifted_taken : (r p m : ℕ) (s : List Line) → p ≢ r → r < m → m ≤ length s
    → Taken (λ i. cond (eqb i r) 1 0) p m s (lifted r p s)
unfolding lifted
lifted_taken r p m s n h l =
    rw (ne_eqb p r n) record {
      size = length-set s r _;
      line = λ i k. line i (ℕ_discrete i r);
      rest = λ i k. ap (λ (x : Line). x.c) (get_or-set_other s r i _ no_line (omega arith));
    }
  where
    line : (i : ℕ) → Dec (i ≡ r)
        → line_at (set s r (record { c = added_scaled 1 0 (line_at s p) (line_at s r) })) i
        ≡ added_scaled (cond (eqb i r) 1 0) 0 (line_at s p) (line_at s i)
    line i (yes e) =
        rw (eq-eqb i r e) (rw e (ap (λ (x : Line). x.c) (get_or-set_same s r _ no_line (omega arith))))
    line i (no d) =
        rw (ne_eqb i r d) (ap (λ (x : Line). x.c) (get_or-set_other s r i _ no_line d)
        ∙ sym (added_none 0 (line_at s p) (line_at s i) refl))

-- The bytes of the multipliers that clear a column are the algebra's.
pub multiplier_byte : (b : List Line) (r i : ℕ) → Small b → byte (multiplier_at b r r i) ≡ multiplier bytes r (matrix b) i
unfolding multiplier_at matrix
multiplier_byte b r i small = go (ℕ_discrete i r)
  where
    go : Dec (i ≡ r)
        → byte (cond (eqb i r) (1 ⊕ inverse (entry b r r)) (inverse (entry b r r) ⊗ entry b i r))
        ≡ multiplier bytes r (matrix b) i
    go (yes e) =
        rw (eq-eqb i r e, e) (byte_add 1 (inverse (entry b r r)) (omega arith) (inverse_lt (entry b r r))
        ∙ ap₂ bytes.add byte_one (byte_inv (entry b r r) (small r r))
        ∙ sym (multiplier_at_lem bytes r (matrix b)))
    go (no n) =
        rw (ne_eqb i r n) (byte_mul (inverse (entry b r r)) (entry b i r)
        ∙ bytes.mul_comm (byte (inverse (entry b r r))) (byte (entry b i r))
        ∙ ap (bytes.mul (byte (entry b i r))) (byte_inv (entry b r r) (small r r))
        ∙ sym (multiplier_off bytes r (matrix b) i n))
