-- The answer of planning, by what is found on the way.
use Rattle.std.specs.Prelude.{Ok, Err}
use mathlib.Core.Path.{◌≡◌, sym, ap, ap₂, ◌∙◌}
use mathlib.Core.List.{List, ◌++◌}
use Prim.Native.Nat.{ℕ, ◌*◌, ◌≤◌, ◌<◌}
use native.Mathlib.Nat.{zero-add}
use lib.ListN.{length, drop}
use borrow.Author.Tests.{lt-ltb, le-ltb}
use Rattle.lists.specs.Put.{put, Wrote}
use Rattle.document.specs.declared.Profile.{Profile}
use Rattle.document.specs.declared.Node.{Node}
use Rattle.document.specs.declared.Place.{Place}
use Rattle.document.specs.declared.Refusal.TheVariants.{OutOfRange, BufferLength}
use Rattle.document.specs.Refusals.{tried}
use Rattle.document.specs.Plan.{planned, plan_bytes, plan_tests, plan_with}
use Rattle.document.proofs.PlanBytes.{bytes_length}

-- places written at the start: the bytes past them stay
written : (x : List ℕ) (qs : List Place) {end : ℕ} {y : List ℕ} → Wrote x 0 (plan_bytes qs) end y
    → y ≡ plan_bytes qs ++ drop (2 * length qs) x
unfolding put
written x qs w =
    w.holds
    ∙ ap (λ (i : ℕ). plan_bytes qs ++ drop i x) (zero-add (length (plan_bytes qs)) ∙ bytes_length qs)

module _ (p : Profile) (f : Node) (x : List ℕ) where
  pub node_refused : p.n ≤ f.0 → (Err OutOfRange, x) ≡ plan_with p f x
  unfolding plan_with plan_tests tried
  node_refused h = sym (simp (le-ltb _ _ h))

  module _ (known : f.0 < p.n) where
    pub buffer_refused : length x < 2 * length (planned p f) → (Err BufferLength, x) ≡ plan_with p f x
    unfolding plan_with plan_tests tried
    buffer_refused h = sym (simp (lt-ltb _ _ known, lt-ltb _ _ h))

    pub done : 2 * length (planned p f) ≤ length x → {m end : ℕ} {y : List ℕ} → m ≡ length (planned p f)
        → Wrote x 0 (plan_bytes (planned p f)) end y → (Ok m, y) ≡ plan_with p f x
    unfolding plan_with plan_tests tried
    done room c w =
        ap₂ (λ (m : ℕ) (l : List ℕ). (Ok m, l)) c (written x (planned p f) w)
        ∙ sym (simp (lt-ltb _ _ known, le-ltb _ _ room))
