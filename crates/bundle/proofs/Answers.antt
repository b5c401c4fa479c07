-- The answer of writing a bundle, by what is found on the way.
use Rattle.std.specs.Prelude.{Ok, Err}
use mathlib.Core.Path.{◌≡◌, sym, ap, ap₂, ◌∙◌}
use mathlib.Core.Bool.{Bool, false, ◌&&◌}
use mathlib.Core.List.{List}
use Prim.Native.Nat.{ℕ, ◌*◌, ◌≤◌, ◌<◌}
use lib.Dec.{eqb}
use lib.ListN.{length}
use borrow.Author.Tests.{lt-ltb, le-ltb, eq-eqb, ne_eqb}
use Rattle.lists.specs.Put.{Wrote}
use Rattle.lists.proofs.Put.{put_whole}
use Rattle.document.specs.declared.Profile.{Profile}
use Rattle.document.specs.declared.Node.{Node}
use Rattle.document.specs.declared.Recording.{Recording}
use Rattle.document.specs.declared.Refusal.TheVariants.{OutOfRange, BufferLength}
use Rattle.document.specs.Refusals.{tried}
use Rattle.document.specs.Profile.{Accepted}
use Rattle.document.specs.Bundle.{bundle_length, bundle_of, write_tests, write_with}
use Rattle.document.proofs.Bundle.{bundle_length_lem}

module _ (p : Profile) (f : Node) (r : Recording) (x b : List ℕ) where
  pub node_refused : p.n ≤ f.0 → (Err OutOfRange, b) ≡ write_with p f r x b
  unfolding write_with write_tests tried
  node_refused h = sym (simp (le-ltb _ _ h))

  module _ (known : f.0 < p.n) where
    -- past the node only the lengths are left to try
    refused : eqb (length x) (p.n * p.a * p.s) && eqb (length b) (bundle_length p f) ≡ false
        → (Err BufferLength, b) ≡ write_with p f r x b
    unfolding write_with write_tests tried
    refused wrong = sym (simp (lt-ltb _ _ known, wrong))

    pub array_refused : (length x ≡ p.n * p.a * p.s → ⊥) → (Err BufferLength, b) ≡ write_with p f r x b
    array_refused n = refused (ap (λ (c : Bool). c && eqb (length b) (bundle_length p f)) (ne_eqb _ _ n))

    module _ (size : length x ≡ p.n * p.a * p.s) where
      pub bundle_refused : (length b ≡ bundle_length p f → ⊥) → (Err BufferLength, b) ≡ write_with p f r x b
      bundle_refused n = refused (ap₂ ◌&&◌ (eq-eqb _ _ size) (ne_eqb _ _ n))

      pub done : Accepted p → length b ≡ bundle_length p f → {m end : ℕ} {y : List ℕ} → m ≡ bundle_length p f
          → Wrote b 0 (bundle_of p f r x) end y → (Ok m, y) ≡ write_with p f r x b
      unfolding write_with write_tests tried
      done acc room c w =
          ap₂ (λ (m : ℕ) (l : List ℕ). (Ok m, l)) (c ∙ sym whole)
          (w.holds ∙ put_whole b (bundle_of p f r x) (whole ∙ sym room))
          ∙ sym (simp (lt-ltb _ _ known, eq-eqb _ _ size, eq-eqb _ _ room))
        where
          whole : length (bundle_of p f r x) ≡ bundle_length p f
          whole = bundle_length_lem p acc x size r f known
