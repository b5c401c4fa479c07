-- `Profile::new` meets its contract: each return is the outcome of the tests that led there.
use mathlib.Core.Path.{◌≡◌, sym, ◌∙◌}
use mathlib.Core.Bool.{true}
use native.Mathlib.Omega.{arith}
use Rattle.document.specs.Profile.{shape_accepted, edition_accepted}
use Rattle.document.proofs.Decides.{decides_false}
use Rattle.document.proofs.Accepts.{
  decides_shape,
  decides_constant,
  decides_strip,
  decides_edition,
  shape_refused,
  constant_refused,
  strip_refused,
  edition_refused,
  none_refused,
}
use Rattle.document.proofs.Profile.new.Goals.{Else-not-accepts_edition, Else-not-accepts_shape}
use Rattle.document.proofs.Profile.new.Goals as goal

-- past the first test
shape : (c : Else-not-accepts_shape)
    → shape_accepted c.args.p.n c.args.p.k c.args.p.a ≡ true
shape c = sym c.accepts_shape.ensures ∙ c.if-not-accepts_shape.false

pub returns-then-not-accepts_shape : goal.returns-then-not-accepts_shape
returns-then-not-accepts_shape c = sym (shape_refused _ (sym c.accepts_shape.ensures ∙ c.if-not-accepts_shape.true))

pub returns-then-t-lt-MIN_CONSTANT : goal.returns-then-t-lt-MIN_CONSTANT
returns-then-t-lt-MIN_CONSTANT c =
    sym (constant_refused _ (shape (goal.at.returns-then-t-lt-MIN_CONSTANT c).Else-not-accepts_shape) (decides_false _ (decides_constant _) (λ h. omega (arith, h))))

pub returns-then-t-gt-MAX_CONSTANT : goal.returns-then-t-gt-MAX_CONSTANT
returns-then-t-gt-MAX_CONSTANT c =
    sym (constant_refused _ (shape (goal.at.returns-then-t-gt-MAX_CONSTANT c).Else-not-accepts_shape) (decides_false _ (decides_constant _) (λ h. omega (arith, h))))

pub returns-then-s-lt1 : goal.returns-then-s-lt1
returns-then-s-lt1 c =
    sym (strip_refused _ (shape (goal.at.returns-then-s-lt1 c).Else-not-accepts_shape) ((decides_constant _).1 (omega arith, omega arith))
    (decides_false _ (decides_strip _) (λ h. omega (arith, h))))

pub returns-then-s-gt-MAX_STRIP : goal.returns-then-s-gt-MAX_STRIP
returns-then-s-gt-MAX_STRIP c =
    sym (strip_refused _ (shape (goal.at.returns-then-s-gt-MAX_STRIP c).Else-not-accepts_shape) ((decides_constant _).1 (omega arith, omega arith))
    (decides_false _ (decides_strip _) (λ h. omega (arith, h))))

pub returns-then-not-accepts_edition : goal.returns-then-not-accepts_edition
returns-then-not-accepts_edition c =
    sym (edition_refused _ (shape (goal.at.returns-then-not-accepts_edition c).Else-not-accepts_shape)
    ((decides_constant _).1 (omega arith, omega arith)) ((decides_strip _).1 (omega arith, omega arith))
    (sym c.accepts_edition.ensures ∙ c.if-not-accepts_edition.true))

-- past the last test
edition : (c : Else-not-accepts_edition)
    → edition_accepted c.args.p.edition ≡ true
edition c = sym c.accepts_edition.ensures ∙ c.if-not-accepts_edition.false

pub overflow_cast-result-2 : goal.overflow_cast-result-2
overflow_cast-result-2 c = omega (arith, (decides_edition _).0 (edition (goal.at.overflow_cast-result-2 c).Else-not-accepts_edition))

pub returns : goal.returns
returns c =
    sym (none_refused _ (shape (goal.at.returns c).Else-not-accepts_shape)
    ((decides_constant _).1 (omega arith, omega arith)) ((decides_strip _).1 (omega arith, omega arith)) (edition (goal.at.returns c).Else-not-accepts_edition))

pub invariant_of-result : goal.invariant_of-result
invariant_of-result c = record {
  shape = (decides_shape _ _ _).0 (shape (goal.at.invariant_of-result c).Else-not-accepts_shape);
  above_one = omega arith;
  one_byte = omega arith;
  some_bytes = omega arith;
  short = omega arith;
  first_edition = ((decides_edition _).0 (edition (goal.at.invariant_of-result c).Else-not-accepts_edition)).0;
  last_edition = ((decides_edition _).0 (edition (goal.at.invariant_of-result c).Else-not-accepts_edition)).1;
}
