-- Numbers written in decimal digits, and the line for a refusal.
use mathlib.Core.Path.{◌≡◌, ap, ◌∙◌}
use mathlib.Core.Bool.{Bool, true, false, cond}
use mathlib.Core.List.{List, [], ◌∷◌, ◌++◌, append_assoc}
use Prim.Native.Nat.{ℕ, ◌+◌, ◌/◌, ◌%◌, ◌≤◌, ◌<◌, zero-le}
use native.Mathlib.Nat.{add_assoc}
use native.Mathlib.Omega.{arith}
use lib.Dec.{ltb}
use lib.ListN.{length, set, length-append, length-set}
use borrow.Author.Tests.{lt-ltb, le-ltb}
use Rattle.lists.specs.Put.{Wrote}
use Rattle.lists.proofs.Put.{wrote_one, wrote_then, wrote_same}
use Rattle.document.specs.declared.Refusal.{Refusal}
use Rattle.document.specs.Refusals.{number_of, index_of}
use Rattle.document.specs.Program.{decimal, refusal_line}

decimal_length : (v : ℕ) → length (decimal v) ≤ 2
unfolding decimal
decimal_length v = go (ltb v 10)
  where
    go : (b : Bool) → length (cond b ((48 + v) ∷ []) ((48 + v / 10) ∷ (48 + v % 10) ∷ [])) ≤ 2
    go true = omega arith
    go false = omega arith

-- where a number after a text ends
pub number_ends : {d e : List ℕ} {at n : ℕ} (text : List ℕ) (v : ℕ) → Wrote d at (text ++ decimal v) n e
    → n ≤ at + length text + 2
number_ends text v w = omega (arith, w.ends, length-append text (decimal v), decimal_length v)

-- "refused " and " at "
abbrev pub refused_text : List ℕ
refused_text = 0x72 ∷ 0x65 ∷ 0x66 ∷ 0x75 ∷ 0x73 ∷ 0x65 ∷ 0x64 ∷ 0x20 ∷ []

abbrev pub at_text : List ℕ
at_text = 0x20 ∷ 0x61 ∷ 0x74 ∷ 0x20 ∷ []

-- the three writes of a line
pub line_written : {d₀ d₁ d₂ d₃ : List ℕ} {a b n number index : ℕ} (r : Refusal)
    → Wrote d₀ 0 (refused_text ++ decimal number) a d₁ → Wrote d₁ a (at_text ++ decimal index) b d₂
    → Wrote d₂ b (0x0A ∷ []) n d₃ → number ≡ number_of r → index ≡ index_of r → Wrote d₀ 0 (refusal_line r) n d₃
unfolding refusal_line
line_written {number = number} {index = index} r u v w ne ie =
    wrote_same
    (append_assoc (refused_text ++ decimal number) (at_text ++ decimal index) (0x0A ∷ [])
    ∙ append_assoc refused_text (decimal number) _
    ∙ rw (ne, ie) (ap (λ (l : List ℕ). refused_text ++ (decimal (number_of r) ++ l))
    (append_assoc at_text (decimal (index_of r)) (0x0A ∷ []))))
    (wrote_then zero-le (wrote_then zero-le u v) w)
