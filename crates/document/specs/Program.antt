-- 'What the store holds': the small program, from the bytes of its standard input to those of its standard output.
--
-- byte_in input i        : byte i of the input; 0 where it is missing
-- program_head           : the length of what stands before the bundle
-- wanted_numbers input   : the wanted profile's numbers
-- wanted_node input      : the wanted node
-- wanted_recording input : the wanted recording
-- decimal v             : a number below 100 in decimal digits
-- refusal_line r         : the line for the refusal r
-- output_of outcome      : what is written for the outcome of a rebuild
-- program_of input       : what the program writes
use Rattle.std.specs.Prelude.{cond, List, [], ◌∷◌, ◌++◌, ℕ, ◌+◌, ◌*◌, ◌/◌, ◌%◌, ltb, get_or, drop, replicate, Ok, Err}
use Rattle.document.specs.declared.Numbers.{Numbers}
use Rattle.document.specs.declared.Recording.{Recording}
use Rattle.document.specs.declared.Refusal.{Refusal}
use Rattle.document.specs.Refusals.{number_of, index_of, Answer}
use Rattle.document.specs.Rebuild.{rebuild_of}

-- 'bytes that are missing count as 0'
abbrev pub byte_in : List ℕ → ℕ → ℕ
byte_in input i = get_or input i 0

-- '(n, k, A, t, S in two, wanted node, wanted scenario in four; ..)', K2: 'The program reads thirteen bytes, the run
-- last.' High byte first as in a bundle: for S and the scenario a reading of ours, which docs/DECISIONS.md has; for the
-- run K2 says it. K6: 'the small program stays with edition 1'.
abbrev pub program_head : ℕ
program_head = 13

unfoldable pub wanted_numbers : List ℕ → Numbers
wanted_numbers input = record {
  n = byte_in input 0;
  k = byte_in input 1;
  a = byte_in input 2;
  t = byte_in input 3;
  s = byte_in input 4 * 256 + byte_in input 5;
  edition = 1;
}

unfoldable pub wanted_node : List ℕ → ℕ
wanted_node input = byte_in input 6

unfoldable pub wanted_recording : List ℕ → Recording
wanted_recording input = record {
  scenario = ((byte_in input 7 * 256 + byte_in input 8) * 256 + byte_in input 9) * 256 + byte_in input 10;
  run = byte_in input 11 * 256 + byte_in input 12;
}

-- A refusal's number has at most two digits, and a bundle has at most 38 strips.
unfoldable pub decimal : ℕ → List ℕ
decimal v = cond (ltb v 10) ((48 + v) ∷ []) ((48 + v / 10) ∷ (48 + v % 10) ∷ [])

-- 'one line such as `refused 8 at 0` with the number and the strip's index': "refused ", the number, " at ", the index,
-- and the end of the line.
unfoldable pub refusal_line : Refusal → List ℕ
refusal_line r =
    0x72 ∷ 0x65 ∷ 0x66 ∷ 0x75 ∷ 0x73 ∷ 0x65 ∷ 0x64 ∷ 0x20
    ∷ (decimal (number_of r) ++ (0x20 ∷ 0x61 ∷ 0x74 ∷ 0x20 ∷ (decimal (index_of r) ++ (0x0A ∷ []))))

-- 'It writes the column's bytes, or one line'
unfoldable pub output_of : Answer × List ℕ → List ℕ
output_of (Ok v, column) = column
output_of (Err r, column) = refusal_line r

-- '.. and then a bundle, which is all that follows'. Said with a column of the right length, zeros; what a lent column
-- holds changes nothing of the answer.
unfoldable pub program_of : List ℕ → List ℕ
program_of input =
    let p : Numbers = wanted_numbers input in
    output_of
    (rebuild_of p (wanted_node input) (wanted_recording input) (drop program_head input) (replicate (p.a * p.s) 0))
