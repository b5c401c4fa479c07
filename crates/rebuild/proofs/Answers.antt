-- The answer of a rebuild, by what is found on the way.
use Rattle.std.specs.Prelude.{Result, Ok, Err}
use Rattle.std.specs.Result.{IsErrAnd}
use Rattle.std.proofs.lemmas.Result.{err_from_is_err_and}
use mathlib.Core.Path.{◌≡◌, sym, ap, ◌∙◌}
use mathlib.Core.List.{List}
use Prim.Native.Nat.{ℕ, ◌*◌, ◌≤◌, ◌<◌}
use native.Mathlib.Omega.{arith}
use lib.ListN.{length}
use borrow.Author.Tests.{lt-ltb, le-ltb, eq-eqb, ne_eqb, not-false}
use Rattle.document.specs.declared.Profile.{Profile}
use Rattle.document.specs.declared.Node.{Node}
use Rattle.document.specs.declared.Recording.{Recording}
use Rattle.document.specs.declared.Refusal.{Refusal}
use Rattle.document.specs.declared.Refusal.TheVariants.{OutOfRange, BufferLength}
use Rattle.document.specs.Refusals.{tried, Answer}
use Rattle.document.specs.Plan.{planned}
use Rattle.document.specs.Message.{strip_field_length, message_length, message_tests}
use Rattle.document.specs.Bundle.{lost_content, bundle_length, bundle_tests}
use Rattle.document.specs.Rebuild.{rebuilt_of, first_strip, rebuild_tests, rebuild_with}
use Rattle.document.proofs.Bounds.{room}
use Rattle.document.proofs.Tried.{tried_refused, tried_passed, first_failed}
use Rattle.document.proofs.Message.{formed_length}
use Rattle.document.proofs.Bundle.{lost_length}
use Rattle.rebuild.specs.Folded.{StripsFit}

-- what `bundle::check` says of the bundle b
abbrev pub checked : Profile → Node → Recording → List ℕ → Result (Unit {0}) Refusal
checked p f r b = tried (bundle_tests p f r b) Err (Ok tt)

module _ (p : Profile) (f : Node) (r : Recording) (b y : List ℕ) where
  pub node_refused : p.n ≤ f.0 → (Err OutOfRange, y) ≡ rebuild_with p f r b y
  unfolding rebuild_with rebuild_tests tried
  node_refused h = sym (simp (le-ltb _ _ h))

  module _ (known : f.0 < p.n) where
    pub column_refused : (length y ≡ p.a * p.s → ⊥) → (Err BufferLength, y) ≡ rebuild_with p f r b y
    unfolding rebuild_with rebuild_tests tried
    column_refused n = sym (simp (lt-ltb _ _ known, ne_eqb _ _ n))

    -- past the column only the bundle is left to try
    module _ (size : length y ≡ p.a * p.s) where
      past : rebuild_with p f r b y
          ≡ tried (bundle_tests p f r b) (λ refusal. (Err refusal, y))
          (Ok 0, rebuilt_of p f b (first_strip p) (strip_field_length p.s))
      unfolding rebuild_with rebuild_tests tried
      past = simp (lt-ltb _ _ known, eq-eqb _ _ size)

      -- the exit at the `?` behind `bundle::check`
      pub bundle_exit : {refusal : Refusal} (o : Answer) → IsErrAnd o (λ e. e ≡ refusal)
          → Err refusal ≡ checked p f r b → (o, y) ≡ rebuild_with p f r b y
      bundle_exit {refusal} o ends is =
          let e = err_from_is_err_and o ends in
          ap (λ (o : Answer). (o, y)) (e.1 ∙ ap Err e.2)
          ∙ sym (past ∙ tried_refused _ tt _ (bundle_tests p f r b) refusal (sym is))

      pub bundle_done : checked p f r b ≡ Ok tt → {z : List ℕ}
          → z ≡ rebuilt_of p f b (first_strip p) (strip_field_length p.s) → (Ok 0, z) ≡ rebuild_with p f r b y
      bundle_done e same =
          ap (λ (z : List ℕ). (Ok 0, z)) same ∙ sym (past ∙ tried_passed _ tt _ (bundle_tests p f r b) tt e)

-- a bundle that passes has the strips of the plan
pub strips_fit : (p : Profile) (f : Node) (r : Recording) (b : List ℕ)
    → checked p f r b ≡ Ok tt → StripsFit p f b (first_strip p) (strip_field_length p.s)
unfolding bundle_tests message_tests
strips_fit p f r b e = record {
  reach = λ i l. omega (arith, room i (length (planned p f)) (strip_field_length p.s) l, whole);
}
  where
    whole : length b ≡ bundle_length p f
    whole =
        formed_length p (length (lost_content f r)) (length (planned p f)) b (not-false _ (first_failed _ _ tt tt e))
        ∙ ap (λ (m : ℕ). message_length p m (length (planned p f))) (lost_length f r)
