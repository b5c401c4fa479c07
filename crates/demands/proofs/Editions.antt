-- What the edition leaves alone: no definition of an array, of a reading back or of a survey reads it.
use mathlib.Core.Path.{◌≡◌, refl, sym, ◌∙◌}
use mathlib.Core.List.{List}
use Prim.Native.Nat.{ℕ}
use Rattle.document.specs.declared.Numbers.{Numbers}
use Rattle.document.specs.declared.Profile.{Profile}
use Rattle.document.specs.declared.Refusal.{Refusal}
use Rattle.document.specs.Profile.{Accepted, profile_of, on_accepted}
use Rattle.document.specs.Encoding.{
  start,
  byte_at,
  base_at,
  constant_of,
  coupled_at,
  laid_out,
  encoded,
  encode_tests,
  encode_with,
  encode_of,
}
use Rattle.document.specs.Reading.{
  coefficient_at,
  coefficient_line,
  square_of,
  elimination_of,
  ambiguous,
  inverse_of,
  data_from,
  read_tests,
  read_with,
  read_of,
}
use Rattle.document.specs.Survey.{fails_at, found_from, result_of, survey_tests, survey_with, survey_of}
use Rattle.document.proofs.Accepts.{
  decides_shape,
  decides_constant,
  decides_strip,
  decides_edition,
  none_refused,
  passed,
}
use Rattle.demands.specs.Encoding.{DocumentArray}
use Rattle.demands.specs.Strips.{EncodedArray}
use Rattle.demands.specs.Editions.{in_edition, EditionsAside, EitherRebuilds}
use Rattle.demands.proofs.Rebuild.{cut_rebuilds}

-- ---- a call with accepted numbers goes on with them
module _ (p : Numbers) (acc : Accepted (profile_of p)) where
  goes_on : {X : Type 0} (refuse : Refusal → X) (go : Profile → X) → go (profile_of p) ≡ on_accepted p refuse go
  goes_on refuse go =
      passed p refuse go
      (none_refused p ((decides_shape _ _ _).1 acc.shape) ((decides_constant _).1 (acc.above_one, acc.one_byte))
      ((decides_strip _).1 (acc.some_bytes, acc.short)) ((decides_edition _).1 (acc.first_edition, acc.last_edition)))

-- ---- one definition after the other
module _ (p : Numbers) (e : ℕ) where
  abbrev here : Profile
  here = profile_of p

  abbrev there : Profile
  there = profile_of (in_edition p e)

  same_encoding : (d x : List ℕ) → encode_with here d x ≡ encode_with there d x
  unfolding encode_with encode_tests encoded laid_out coupled_at constant_of base_at byte_at start
  same_encoding d x = refl

  same_reading : (nodes x y : List ℕ) → read_with here nodes x y ≡ read_with there nodes x y
  unfolding read_with read_tests ambiguous data_from inverse_of elimination_of square_of coefficient_line coefficient_at
      coupled_at constant_of laid_out
  same_reading nodes x y = refl

  same_survey : (start most : ℕ) (x : List ℕ) → survey_with here start most x ≡ survey_with there start most x
  unfolding survey_with survey_tests result_of found_from fails_at ambiguous elimination_of square_of coefficient_line
      coefficient_at coupled_at constant_of
  same_survey start most x = refl

same_array : (p : Numbers) (e : ℕ) (x : List ℕ) → EncodedArray (profile_of p) x
    → EncodedArray (profile_of (in_edition p e)) x
unfolding byte_at start
same_array p e x E =
    let D : DocumentArray (profile_of p) E.given x = E.gives in record {
      given = E.given;
      are_data = record { size = E.are_data.size; bytes_only = E.are_data.bytes_only };
      gives = record {
        base = D.base;
        coefficients = D.coefficients;
        data_size = D.data_size;
        stored = record { size = D.stored.size; bytes_only = D.stored.bytes_only };
        degree = D.degree;
        values = D.values;
        given = D.given;
        diagonal = D.diagonal;
        upper = D.upper;
        lower = D.lower;
      };
    }

pub editions_aside : EditionsAside
unfolding encode_of read_of survey_of
editions_aside p e acc other = record {
  encoding = λ d x. sym (goes_on p acc _ _) ∙ same_encoding p e d x ∙ goes_on (in_edition p e) other _ _;
  reading = λ nodes x y. sym (goes_on p acc _ _) ∙ same_reading p e nodes x y ∙ goes_on (in_edition p e) other _ _;
  survey = λ start most x.
      sym (goes_on p acc _ _) ∙ same_survey p e start most x ∙ goes_on (in_edition p e) other _ _;
  arrays = λ x. (same_array p e x, same_array (in_edition p e) p.edition x);
}

pub either_rebuilds : EitherRebuilds
either_rebuilds p e f x E recording₁ recording₂ r₁ r₂ b₁ b₂ y₁ y₂ cut₁ cut₂ e₁ e₂ =
    cut_rebuilds p f x recording₁ r₁ b₁ y₁ cut₁ E e₁
    ∙ sym (cut_rebuilds (in_edition p e) f x recording₂ r₂ b₂ y₂ cut₂ (same_array p e x E) e₂)
