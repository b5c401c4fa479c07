-- The answer of reading back, by what is found on the way.
use Rattle.std.specs.Prelude.{Ok, Err}
use mathlib.Core.Path.{◌≡◌, refl, sym, ap, ap₂, ◌∙◌}
use mathlib.Core.Bool.{Bool, true, false, ◌&&◌, cond}
use mathlib.Core.List.{List, [], ◌∷◌}
use Prim.Native.Nat.{ℕ, ◌*◌}
use lib.Dec.{eqb}
use lib.ListN.{length}
use borrow.Author.Tests.{eq-eqb, ne_eqb}
use Rattle.document.specs.declared.Profile.{Profile}
use Rattle.document.specs.declared.Refusal.TheVariants.{OutOfRange, BufferLength, Ambiguous}
use Rattle.document.specs.Refusals.{tried, Answer}
use Rattle.document.specs.Reading.{list_accepted, ambiguous, data_from, read_tests, read_with}
use Rattle.reading.specs.Steps.{reading_answer}

module _ (p : Profile) (nodes x y : List ℕ) where
  pub list_refused : list_accepted p.n 0 p.k nodes ≡ false → (Err OutOfRange, y) ≡ read_with p nodes x y
  unfolding read_with read_tests tried
  list_refused f = sym (simp f)

  module _ (list : list_accepted p.n 0 p.k nodes ≡ true) where
    wrong_length : eqb (length x) (p.k * p.a * p.s) && eqb (length y) (p.k * p.a * p.s) ≡ false
        → (Err BufferLength, y) ≡ read_with p nodes x y
    unfolding read_with read_tests tried
    wrong_length f = sym (simp (list, f))

    pub columns_refused : (length x ≡ p.k * p.a * p.s → ⊥) → (Err BufferLength, y) ≡ read_with p nodes x y
    columns_refused n =
        wrong_length (ap (λ (b : Bool). b && eqb (length y) (p.k * p.a * p.s)) (ne_eqb _ _ n))

    module _ (size : length x ≡ p.k * p.a * p.s) where
      pub output_refused : (length y ≡ p.k * p.a * p.s → ⊥) → (Err BufferLength, y) ≡ read_with p nodes x y
      output_refused n = wrong_length (ap₂ ◌&&◌ (eq-eqb _ _ size) (ne_eqb _ _ n))

      -- only refusal 10 is left to try
      pub in_due_form : length y ≡ p.k * p.a * p.s → reading_answer p nodes x y ≡ read_with p nodes x y
      unfolding read_with read_tests reading_answer tried
      in_due_form room =
          last (ambiguous p nodes) ∙ sym (simp (list, eq-eqb _ _ size, eq-eqb _ _ room))
        where
          outcome : Answer × List ℕ
          outcome = (Ok 0, data_from p nodes x)

          last : (b : Bool) → ◌≡◌ {A = Answer × List ℕ} (cond b (Err Ambiguous, y) outcome)
              (tried (record { refusal = Ambiguous; holds = b } ∷ []) (λ r. (Err r, y)) outcome)
          last true = refl
          last false = refl
