-- What is claimed of the store: the owner's three demands, and what document 01 says of a survey. The record claims it
-- of definitions, and the theorem `demands` in proofs/Demands.antt shows it; that the code does what the definitions
-- say is the contract of each entry point, which Demand1.antt names.
--
-- Demands : the demands
--
-- How to read them. Demand1.antt, Demand2.antt and Demand3.antt have a record each, and Survey.antt has one at its end:
-- demand 1 with a statement for each call, the others with the sentences that they say. What the statements say is in a
-- file for each call: Encoding.antt, Plan.antt, Bundle.antt, Rebuild.antt, Reading.antt, Survey.antt, and Program.antt
-- for the small program. Strips.antt has what a rebuild rests on, Message.antt the lines for a bundle to read,
-- Recordings.antt what becomes of strips of several recordings in one bundle and of old bundles, Editions.antt what the
-- edition leaves alone, Tables.antt and Profile.antt what all calls have in common. The words that they use are in
-- document/specs and in the specs of the crates below it.
--
-- A call has two tables of refusals. The one to be believed is that of the sentences here: profile_sentences, then
-- encode_sentences, plan_sentences, write_sentences, rebuild_sentences, read_sentences or survey_sentences. The other is the
-- tests in document/specs (profile_tests, encode_tests ..). They compute, and are shown to decide the sentences line by
-- line (`Decided` in Tables.antt): nobody has to believe them.
use Rattle.demands.specs.Demand1.{Demand1}
use Rattle.demands.specs.Demand2.{Demand2}
use Rattle.demands.specs.Demand3.{Demand3}
use Rattle.demands.specs.Survey.{SurveyDemands}

pub record Demands : Type 1 where
  -- 'Any bytes, any numbers, any time: every entry point answers ..'
  pub demand_1 : Demand1
  -- 'Encoding writes the array that document 01 defines. Reading back from k named drives ..'
  pub demand_2 : Demand2
  -- 'For every accepted profile .. and every dead drive, the plan names the places ..'
  pub demand_3 : Demand3
  -- 'The survey looks at the sets of k nodes in lexicographic order ..'
  pub survey : SurveyDemands
