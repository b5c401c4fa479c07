-- `rebuild_answer::recording` meets its contract: four bytes and two, high byte first.
use mathlib.Core.Path.{◌≡◌, refl, ap₂, ◌∙◌}
use Prim.Native.Nat.{ℕ, ◌+◌, ◌*◌}
use native.Mathlib.Omega.{arith}
use Rattle.document.specs.declared.Recording.{Recording}
use Rattle.document.specs.Program.{wanted_recording}
use Rattle.rebuild_answer.proofs.recording.Goals as goal

-- the numbers that the library makes of the bytes, as the document has them
abbrev of_bytes : ℕ → ℕ → ℕ → ℕ → ℕ → ℕ → Recording
of_bytes a b c d e f = record { scenario = ((a * 256 + b) * 256 + c) * 256 + d; run = e * 256 + f }

recorded : {s r : ℕ} (a b c d e f : ℕ) → s ≡ a * 16777216 + b * 65536 + c * 256 + d → r ≡ e * 256 + f
    → record { scenario = s; run = r } ≡ of_bytes a b c d e f
recorded a b c d e f four two =
    ap₂ (λ (s r : ℕ). record { scenario = s; run = r }) (omega (arith, four)) two

pub returns : goal.returns
unfolding wanted_recording
returns c =
    recorded _ _ _ _ _ _ c.from_be_bytes.ensures c.from_be_bytes-2.ensures
    ∙ rw (
      c.byte_in.ensures,
      c.byte_in-2.ensures,
      c.byte_in-3.ensures,
      c.byte_in-4.ensures,
      c.byte_in-5.ensures,
      c.byte_in-6.ensures,
    )
    refl
