-- The small program: its output by the tests of a rebuild, and that it does not turn on what the lent column holds.
use Rattle.std.specs.Prelude.{Ok, Err}
use mathlib.Core.Path.{◌≡◌, refl, sym, ap, ◌∙◌}
use mathlib.Core.List.{List}
use Prim.Native.Nat.{ℕ, ◌*◌, min}
use native.Mathlib.Omega.{arith}
use lib.ListN.{length, drop, replicate, length-replicate}
use Rattle.document.specs.declared.Numbers.{Numbers}
use Rattle.document.specs.declared.Profile.{Profile}
use Rattle.document.specs.declared.Node.{Node}
use Rattle.document.specs.declared.Recording.{Recording}
use Rattle.document.specs.Refusals.{tried, Answer}
use Rattle.document.specs.Profile.{max_rows, max_strip, profile_of, on_accepted}
use Rattle.document.specs.Message.{strip_field_length}
use Rattle.document.specs.Rebuild.{rebuilt_of, rebuild_tests, first_strip, rebuild_with, rebuild_of}
use Rattle.document.specs.Program.{
  program_head,
  wanted_numbers,
  wanted_node,
  wanted_recording,
  refusal_line,
  output_of,
  program_of,
}
use Rattle.document.proofs.Accepts.{on_accepted_same, on_accepted_map}
use Rattle.document.proofs.Tried.{tried_map}
use Rattle.document.proofs.Bounds.{column_bound}

module _ (p : Numbers) (f : ℕ) (r : Recording) (b : List ℕ) where
  abbrev lost : Node
  lost = record { 0 = f }

  -- a rebuild with an accepted profile, as the program tells it
  abbrev pub told : List ℕ → Profile → List ℕ
  told y q = tried (rebuild_tests q lost r b y) refusal_line (rebuilt_of q lost b (first_strip q) (strip_field_length q.s))

  pub output_is : (y : List ℕ) → output_of (rebuild_of p f r b y) ≡ on_accepted p refusal_line (told y)
  unfolding rebuild_of rebuild_with output_of
  output_is y =
      on_accepted_map output_of p (λ refusal. (Err refusal, y)) (λ p. rebuild_with p lost r b y)
      ∙ on_accepted_same p refusal_line _ (told y)
      (λ acc. tried_map output_of (rebuild_tests (profile_of p) lost r b y) (λ refusal. (Err refusal, y)) (Ok 0, _))

  -- a column of the right length is lent where the profile is accepted; elsewhere its length does not count
  any_column : (y z : List ℕ) → length y ≡ min (p.a * p.s) (max_rows * max_strip) → length z ≡ p.a * p.s
      → output_of (rebuild_of p f r b y) ≡ output_of (rebuild_of p f r b z)
  unfolding rebuild_tests
  any_column y z ly lz =
      output_is y
      ∙ on_accepted_same p refusal_line (told y) (told z)
      (λ acc. let e : length y ≡ length z = omega (arith, column_bound (profile_of p) acc) in rw e refl)
      ∙ sym (output_is z)

-- whatever column of the smaller length is lent
pub program_answered : (input : List ℕ) (p : Numbers) → p ≡ wanted_numbers input → (y : List ℕ)
    → length y ≡ min (p.a * p.s) (max_rows * max_strip) → (o : Answer × List ℕ)
    → o ≡ rebuild_of p (wanted_node input) (wanted_recording input) (drop program_head input) y → output_of o ≡ program_of input
unfolding program_of
program_answered input p same y h o e =
    ap output_of e
    ∙ any_column p (wanted_node input) (wanted_recording input) (drop program_head input) y (replicate (p.a * p.s) 0) h
    (length-replicate (p.a * p.s) 0)
    ∙ ap (λ (v : Numbers). output_of
    (rebuild_of v (wanted_node input) (wanted_recording input) (drop program_head input) (replicate (v.a * v.s) 0))) same
