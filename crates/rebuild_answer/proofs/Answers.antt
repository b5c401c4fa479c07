-- What the function leaves, by the outcome of the rebuild.
use Rattle.std.specs.Prelude.{Ok, Err}
use mathlib.Core.Path.{◌≡◌, refl, sym, ap, subst, ◌∙◌}
use mathlib.Core.List.{List, ◌++◌}
use Prim.Native.Nat.{ℕ, ◌-◌, ◌*◌, ◌≤◌, ◌<◌, min}
use native.Mathlib.Decide.{dec_lt}
use native.Mathlib.Omega.{arith}
use lib.ListN.{length, take, drop, length-drop, drop_of_length-le, take-append-drop}
use lib.Seq.{take_all}
use Rattle.lists.specs.Put.{Wrote}
use Rattle.lists.proofs.Put.{wrote_same}
use Rattle.lists.proofs.Lent.{front_wrote}
use Rattle.document.specs.declared.Numbers.{Numbers}
use Rattle.document.specs.declared.Refusal.{Refusal}
use Rattle.document.specs.declared.Recording.{Recording}
use Rattle.document.specs.Refusals.{index_of, answer_value, Answer}
use Rattle.document.specs.Profile.{max_rows, max_strip, profile_tests, profile_of, on_accepted}
use Rattle.document.specs.Rebuild.{rebuild_tests, rebuild_with, rebuild_of}
use Rattle.document.specs.Program.{
  byte_in,
  program_head,
  wanted_numbers,
  wanted_node,
  wanted_recording,
  refusal_line,
  output_of,
  program_of,
}
use Rattle.document.proofs.Tried.{tried_by}
use Rattle.document.proofs.Values.{rebuild_value}
use Rattle.document.proofs.Program.{program_answered}

-- all that follows the head, also where the head is not whole
pub bundle_part : (input : List ℕ) (head : ℕ) → head ≡ min (length input) program_head
    → take (length input - head) (drop head input) ≡ drop program_head input
bundle_part input head e =
    take_all (length input - head) (drop head input) (omega (arith, length-drop head input))
    ∙ go (dec_lt (length input) program_head)
  where
    go : Dec (length input < program_head) → drop head input ≡ drop program_head input
    go (yes short) =
        let all : length input ≤ head = omega arith in
        let past : length input ≤ program_head = omega arith in
        drop_of_length-le input all ∙ sym (drop_of_length-le input past)
    go (no long) =
        let whole : head ≡ program_head = omega arith in
        ap (λ (h : ℕ). drop h input) whole

-- a rebuild from what was read
pub read_rebuilt : (input : List ℕ) (p : Numbers) (y : List ℕ) {lost : ℕ} {r : Recording} {b : List ℕ}
    → lost ≡ byte_in input 6 → r ≡ wanted_recording input → b ≡ drop program_head input
    → rebuild_of p lost r b y ≡ rebuild_of p (wanted_node input) (wanted_recording input) (drop program_head input) y
unfolding wanted_node
read_rebuilt input p y l r b = rw (l, r, b) refl

-- a refused rebuild changes no byte
abbrev Kept : List ℕ → Answer × List ℕ → Type 0
Kept y (Ok v, x) = Unit
Kept y (Err r, x) = x ≡ y

rebuild_kept : (p : Numbers) (lost : ℕ) (r : Recording) (b y : List ℕ) → Kept y (rebuild_of p lost r b y)
unfolding rebuild_of rebuild_with on_accepted
rebuild_kept p lost r b y =
    tried_by (Kept y) (profile_tests p) _ _ (λ refusal. refl)
    (λ _. tried_by (Kept y) (rebuild_tests (profile_of p) (record { 0 = lost }) r b y) _ _ (λ refusal. refl) (λ _. tt))

module _ (input : List ℕ) (p : Numbers) (same : p ≡ wanted_numbers input) (y : List ℕ)
    (lent : length y ≡ min (p.a * p.s) (max_rows * max_strip)) {answer : Answer} {x : List ℕ}
    (e : (answer, x) ≡ rebuild_of p (wanted_node input) (wanted_recording input) (drop program_head input) y) where
  output : output_of (answer, x) ≡ program_of input
  output = program_answered input p same y lent (answer, x) e

  -- the lent part of d is given back with the column in it
  pub column_answered : {v : ℕ} → answer ≡ Ok v → (d : List ℕ) (room : ℕ) → length x ≡ room
      → Wrote d 0 (program_of input) room (x ++ drop room d)
  unfolding output_of
  column_answered done d room size =
      wrote_same (sym (ap (λ (a : Answer). output_of (a, x)) done) ∙ output) (front_wrote d x size)

  -- the lent part of d is given back as it was, and the line is written over it
  pub line_answered : {r : Refusal} → answer ≡ Err r → (d : List ℕ) (room : ℕ) → y ≡ take room d
      → {out : List ℕ} {n : ℕ} → Wrote (x ++ drop room d) 0 (refusal_line r) n out → Wrote d 0 (program_of input) n out
  unfolding output_of
  line_answered {r} refused d room part {out} {n} w =
      let kept : Kept y (answer, x) =
      subst (Kept y) (sym e) (rebuild_kept p (wanted_node input) (wanted_recording input) (drop program_head input) y) in
      let stays : x ≡ y = subst (λ (a : Answer). Kept y (a, x)) refused kept in
      let whole : x ++ drop room d ≡ d =
      ap (λ (l : List ℕ). l ++ drop room d) (stays ∙ part) ∙ take-append-drop room d in
      wrote_same (sym (ap (λ (a : Answer). output_of (a, x)) refused) ∙ output)
      (subst (λ (l : List ℕ). Wrote l 0 (refusal_line r) n out) whole w)

  pub index_small : {r : Refusal} → answer ≡ Err r → index_of r < 100
  unfolding answer_value
  index_small {r} d =
      let value : answer_value answer ≡ index_of r = ap answer_value d in
      omega (
        arith,
        ap (λ (o : Answer × List ℕ). answer_value o.0) e,
        rebuild_value p (wanted_node input) (wanted_recording input) (drop program_head input) y,
      )
