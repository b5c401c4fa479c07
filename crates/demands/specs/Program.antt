-- The small program is an entry point too: 'Any bytes, any numbers, any time: every entry point answers'. What it
-- writes, by the table of a rebuild.
--
-- numbers input       : the numbers of the profile that the input says is wanted
-- node input          : the node
-- recording input     : the recording
-- bundle input        : the bundle that follows
-- lent input          : the column lent to the rebuild
-- own input           : the lines of that rebuild past those of the profile
-- table input         : its table
-- ProgramWrites input : the column where the rebuild is not refused, otherwise the line of its first refusal; never 5
--                       nor 13
-- Demand1Program      : so it is for all inputs
-- Shown in proofs/Program.antt: demand_1_program.
use Rattle.std.specs.Prelude.{◌≡◌, List, ◌++◌, ℕ, ◌*◌, drop, replicate}
use Rattle.document.specs.declared.Numbers.{Numbers}
use Rattle.document.specs.declared.Recording.{Recording}
use Rattle.document.specs.declared.Refusal.{Refusal}
use Rattle.document.specs.declared.Refusal.TheVariants.{BufferLength, Edition}
use Rattle.document.specs.Profile.{profile_of}
use Rattle.document.specs.Rebuild.{rebuild_of}
use Rattle.document.specs.Program.{program_head, wanted_numbers, wanted_node, wanted_recording, refusal_line, program_of}
use Rattle.demands.specs.Tables.{Sentence, FirstOf}
use Rattle.demands.specs.Profile.{profile_sentences}
use Rattle.demands.specs.Rebuild.{rebuild_sentences, NotRefused}

module _ (input : List ℕ) where
  abbrev pub numbers : Numbers
  numbers = wanted_numbers input

  abbrev node : ℕ
  node = wanted_node input

  abbrev recording : Recording
  recording = wanted_recording input

  -- 'and then a bundle, which is all that follows'
  abbrev bundle : List ℕ
  bundle = drop program_head input

  -- a column of the right length; what it holds changes nothing of the answer
  abbrev pub lent : List ℕ
  lent = replicate (numbers.a * numbers.s) 0

  abbrev pub own : List Sentence
  own = rebuild_sentences (profile_of numbers) (record { 0 = node }) recording bundle lent

  abbrev pub table : List Sentence
  table = profile_sentences numbers ++ own

  pub record ProgramWrites : Type 1 where
    -- 'It writes the column's bytes'
    pub column : NotRefused numbers node recording bundle lent
        → program_of input ≡ (rebuild_of numbers node recording bundle lent).1
    -- 'or one line .. with the number and the strip's index'
    pub line : (r : Refusal) → FirstOf table r → program_of input ≡ refusal_line r
    -- the lent column has the right length
    pub never_five : FirstOf table BufferLength → ⊥
    -- K6: 'the small program stays with edition 1'
    pub first_edition : numbers.edition ≡ 1
    pub never_thirteen : FirstOf table Edition → ⊥

abbrev pub Demand1Program : Type 1
Demand1Program = (input : List ℕ) → ProgramWrites input
