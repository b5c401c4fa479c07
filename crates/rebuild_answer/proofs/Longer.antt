-- A bundle that is longer than any that is wanted is refused as any other such bundle: so a longer input answers as its
-- prefix does.
use mathlib.Core.Path.{◌≡◌, refl, sym, ◌∙◌}
use mathlib.Core.Bool.{Bool, true, false, not}
use mathlib.Core.List.{List, ◌∷◌}
use Prim.Native.Nat.{ℕ, ◌*◌, ◌≤◌, ◌<◌}
use native.Mathlib.Omega.{arith}
use lib.Dec.{ltb, lit<}
use lib.ListN.{length, take, drop, replicate, length-drop}
use lib.Seq.{length-take-le, get_or-take}
use borrow.Author.Tests.{ltb-true, ne_eqb}
use Rattle.document.specs.declared.Numbers.{Numbers}
use Rattle.document.specs.declared.Profile.{Profile}
use Rattle.document.specs.declared.Node.{Node}
use Rattle.document.specs.declared.Recording.{Recording}
use Rattle.document.specs.declared.Refusal.TheVariants.{OutOfRange, BufferLength, Form}
use Rattle.document.specs.Refusals.{Test, tried}
use Rattle.document.specs.Profile.{Accepted, profile_of}
use Rattle.document.specs.Plan.{planned}
use Rattle.document.specs.Message.{message_length, formed, message_tests}
use Rattle.document.specs.Bundle.{lost_content, longest_bundle, bundle_tests}
use Rattle.document.specs.Rebuild.{rebuild_tests, rebuild_of}
use Rattle.document.specs.Program.{
  byte_in,
  program_head,
  wanted_numbers,
  wanted_node,
  wanted_recording,
  refusal_line,
  output_of,
  program_of,
}
use Rattle.document.proofs.Accepts.{on_accepted_same}
use Rattle.document.proofs.Bundle.{lost_length, bundle_bound}
use Rattle.document.proofs.Program.{told, output_is}
use Rattle.rebuild_answer.specs.Room.{longest_input, LongerInput}

-- a bundle longer than any that is wanted is refused at the latest for its length
not_formed : (p : Profile) → Accepted p → (f : Node) → f.0 < p.n → (r : Recording) (b : List ℕ)
    → longest_bundle < length b → formed p (length (lost_content f r)) (length (planned p f)) b ≡ false
unfolding formed
not_formed p acc f h r b long =
    rw (ne_eqb (length b) (message_length p (length (lost_content f r)) (length (planned p f)))
    (λ e. omega (arith, bundle_bound p acc f h, lost_length f r))) refl

-- the tests of the lost node, the column and the bundle's form, where form is what fails at the latest
form_refused : (node lent form₁ form₂ : Bool) (ts us : List Test) (x y : List ℕ)
    → (node ≡ true → (form₁ ≡ false) × (form₂ ≡ false))
    → tried
    (record { refusal = OutOfRange; holds = not node } ∷ record { refusal = BufferLength; holds = lent }
    ∷ record { refusal = Form; holds = not form₁ } ∷ ts) refusal_line x
    ≡ tried
    (record { refusal = OutOfRange; holds = not node } ∷ record { refusal = BufferLength; holds = lent }
    ∷ record { refusal = Form; holds = not form₂ } ∷ us) refusal_line y
unfolding tried
form_refused false lent form₁ form₂ ts us x y h = refl
form_refused true true form₁ form₂ ts us x y h = refl
form_refused true false form₁ form₂ ts us x y h = simp ((h refl).0, (h refl).1)

too_long : (p : Numbers) (f : ℕ) (r : Recording) (b c y : List ℕ)
    → longest_bundle < length b → longest_bundle < length c
    → output_of (rebuild_of p f r b y) ≡ output_of (rebuild_of p f r c y)
unfolding rebuild_tests bundle_tests message_tests
too_long p f r b c y lb lc =
    output_is p f r b y
    ∙ on_accepted_same p refusal_line (told p f r b y) (told p f r c y)
    (λ acc. form_refused (ltb f p.n) _ _ _ _ _ _ _
    (λ h. (
      not_formed (profile_of p) acc (record { 0 = f }) (ltb-true f p.n h) r b lb,
      not_formed (profile_of p) acc (record { 0 = f }) (ltb-true f p.n h) r c lc,
    )))
    ∙ sym (output_is p f r c y)

-- a longer input answers as its prefix does
module _ (m : ℕ) (long : longest_input < m) (input : List ℕ) (h : m ≤ length input) where
  read : (i : ℕ) → i < program_head → byte_in (take m input) i ≡ byte_in input i
  read i l = get_or-take m input i 0 (omega arith)

  numbers_same : wanted_numbers (take m input) ≡ wanted_numbers input
  unfolding wanted_numbers
  numbers_same =
      simp (
        read 0 (lit< tt),
        read 1 (lit< tt),
        read 2 (lit< tt),
        read 3 (lit< tt),
        read 4 (lit< tt),
        read 5 (lit< tt),
      )

  lost_same : wanted_node (take m input) ≡ wanted_node input
  unfolding wanted_node
  lost_same = read 6 (lit< tt)

  recording_same : wanted_recording (take m input) ≡ wanted_recording input
  unfolding wanted_recording
  recording_same =
      simp (
        read 7 (lit< tt),
        read 8 (lit< tt),
        read 9 (lit< tt),
        read 10 (lit< tt),
        read 11 (lit< tt),
        read 12 (lit< tt),
      )

  prefix_same : program_of input ≡ program_of (take m input)
  unfolding program_of
  prefix_same =
      rw (numbers_same, lost_same, recording_same)
      (too_long (wanted_numbers input) (wanted_node input) (wanted_recording input) (drop program_head input)
      (drop program_head (take m input)) (replicate ((wanted_numbers input).a * (wanted_numbers input).s) 0)
      (rw length-drop (omega arith))
      (rw (length-drop program_head (take m input), length-take-le m input h) (omega arith)))

pub longer_input : LongerInput
longer_input = prefix_same
