-- How much of its input the small program's answer turns on.
--
-- longest_input : the head and the longest bundle
-- LongerInput  : a longer input is answered as its first bytes are, if these are more than that. Shown in
--                proofs/Longer.antt: longer_input
use Rattle.std.specs.Prelude.{◌≡◌, List, ℕ, ◌+◌, ◌≤◌, ◌<◌, length, take}
use Rattle.document.specs.Bundle.{longest_bundle}
use Rattle.document.specs.Program.{program_head, program_of}

abbrev pub longest_input : ℕ
longest_input = program_head + longest_bundle

-- 'and then a bundle, which is all that follows': of an input of at least m bytes the first m answer for all, if m is
-- greater than the longest input. The program keeps one byte more than that, and reads the rest away.
abbrev pub LongerInput : Type 0
LongerInput =
    (m : ℕ) → longest_input < m → (input : List ℕ) → m ≤ length input → program_of input ≡ program_of (take m input)
