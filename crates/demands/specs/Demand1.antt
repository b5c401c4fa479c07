-- Demand 1, whole: 'Any bytes, any numbers, any time: every entry point answers ..'. 'Each refusal is one of the ten in
-- document 01 or one that a request in document 02 adds, given exactly when its condition is the first that holds in
-- the order they are tried (by number, save where a request says otherwise), and it changes no byte that was lent.'
--
-- Demand1 : demand 1 for the six calls, for looking at a profile's numbers and for the small program, for all numbers
--           and bytes. Shown in proofs/Demand1.antt: demand_1
--
-- What it says of any call is in Tables.antt and Profile.antt, each call's table in the file of that call. The small
-- program answers by the table of a rebuild: Program.antt.
--
-- The statements here and in the other files are about definitions. An entry point's promise, without any `requires`,
-- is that its answer and what it leaves in the buffers lent for writing are its definition's: `encode` is encode_of,
-- `plan` plan_of, `write_bundle` write_of, `rebuild` rebuild_of, `read_back` read_of, `survey` survey_of, `Profile::new`
-- checked_of, and the function exported for each call is the same with its answer as one number. What the small program
-- writes is program_of by the promise of `rebuild_answer::answer`; its `main`, which reads and writes, has none. The two
-- functions exported beside the calls, product and inverse of bytes, refuse nothing; that 0 has no inverse is not a
-- refusal.
--
-- 'every entry point answers, and takes nobody's word that the input was checked': each function of the store is proved
-- to end without a fault, and no entry point has a `requires`.
use Rattle.std.specs.Prelude.{List, ℕ}
use Rattle.document.specs.declared.Numbers.{Numbers}
use Rattle.document.specs.declared.Recording.{Recording}
use Rattle.demands.specs.Profile.{Demand1Profile}
use Rattle.demands.specs.Encoding.{Demand1Encode}
use Rattle.demands.specs.Plan.{Demand1Plan}
use Rattle.demands.specs.Bundle.{Demand1Write}
use Rattle.demands.specs.Rebuild.{Demand1Rebuild}
use Rattle.demands.specs.Reading.{Demand1Read}
use Rattle.demands.specs.Survey.{Demand1Survey}
use Rattle.demands.specs.Program.{Demand1Program}

-- 'Any bytes, any numbers, any time'
pub record Demand1 : Type 1 where
  pub profile : (p : Numbers) → Demand1Profile p
  pub encode : (p : Numbers) (d x : List ℕ) → Demand1Encode p d x
  pub plan : (p : Numbers) (f : ℕ) (x : List ℕ) → Demand1Plan p f x
  pub write : (p : Numbers) (f : ℕ) (r : Recording) (x b : List ℕ) → Demand1Write p f r x b
  pub rebuild : (p : Numbers) (f : ℕ) (r : Recording) (b y : List ℕ) → Demand1Rebuild p f r b y
  pub read : (p : Numbers) (nodes x y : List ℕ) → Demand1Read p nodes x y
  pub survey : (p : Numbers) (start most : ℕ) (x : List ℕ) → Demand1Survey p start most x
  -- the small program is an entry point too
  pub program : Demand1Program
