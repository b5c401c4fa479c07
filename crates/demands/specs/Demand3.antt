-- Demand 3, whole: each clause and the statement that says it, and then what else is shown of bundles. Shown in
-- proofs/Demand3.antt: demand_3.
--
-- Demand3 : demand 3
use Rattle.std.specs.Prelude.{ℕ}
use Rattle.document.specs.declared.Numbers.{Numbers}
use Rattle.demands.specs.Plan.{Demand3Places, Demand3Walk, Demand3Order, OneWalk, Demand3Plan}
use Rattle.demands.specs.Strips.{Fits, OneColumn}
use Rattle.demands.specs.Bundle.{Demand3Write, StripsAt}
use Rattle.demands.specs.Rebuild.{
  Demand3Rebuild,
  SameStrips,
  SameColumn,
  SameBundle,
  SameAnswer,
  CutPasses,
  CutColumn,
  CutRebuilds,
  CutForWanted,
  OtherEdition,
  WholeBundle,
}
use Rattle.demands.specs.Editions.{EditionsAside, EitherRebuilds}
use Rattle.demands.specs.Recordings.{OneRecording, MixedRefused, TogetherPasses, OldRefused}

pub record Demand3 : Type 0 where
  -- 'the plan names the places that its steps in document 01 list, in that order: distinct places, none on the dead
  -- drive. Their number is the one the plan, where not refused, answers with, and it equals the formula there.'
  -- K6: 'its places then in the walk's order, is shown once over any walk ..'
  pub places : Demand3Places
  pub walk : Demand3Walk
  -- K6: 'Edition 2 walks the candidates of steps 2 and 3 from the node after the lost one, rising and wrapping past n-1
  -- to 0'; 'Edition 1 stays'
  pub order : Demand3Order
  pub one_walk : OneWalk
  pub plan : Demand3Plan
  -- 'Whatever bytes stand at those places, some encoded array has them'
  pub fits : Fits
  -- 'and the rebuilt column is the one every such array has on that drive.'
  pub one_column : OneColumn
  pub rebuild : (p : Numbers) (f : ℕ) → Demand3Rebuild p f
  -- 'No byte elsewhere, old or new, changes the rebuild.'
  pub same_strips : (p : Numbers) (f : ℕ) → SameStrips p f
  pub same_bundle : (p : Numbers) (f : ℕ) → SameBundle p f
  -- 'Take any two stored arrays alike at the planned places, ..: rebuilds from bundles cut from them, where not
  -- refused, write the same column, ..'
  pub same_column : (p : Numbers) (f : ℕ) → SameColumn p f
  -- 'Any two rebuilds given equal bundles, the same wanted numbers and buffers of equal length give the same answer'
  pub same_answer : (p : Numbers) (f : ℕ) → SameAnswer p f
  -- beyond the demand, what a bundle is, written and read
  pub write : Demand3Write
  pub strips_at : StripsAt
  pub cut_for_wanted : (p : Numbers) (f : ℕ) → CutForWanted p f
  pub cut_passes : (p : Numbers) (f : ℕ) → CutPasses p f
  pub cut_column : (p : Numbers) (f : ℕ) → CutColumn p f
  pub cut_rebuilds : (p : Numbers) (f : ℕ) → CutRebuilds p f
  pub whole_bundle : (p : Numbers) (f : ℕ) → WholeBundle p f
  -- beyond the demand, K6: '6 and 7 read the edition too'; and what the edition leaves alone
  pub other_edition : (p : Numbers) (f : ℕ) → OtherEdition p f
  pub editions_aside : EditionsAside
  pub either_rebuilds : EitherRebuilds
  -- beyond the demand, K2: 'A recording is a scenario and a run .. 7 and 9 compare both numbers; old bundles get 6.'
  pub one_recording : (p : Numbers) (f : ℕ) → OneRecording p f
  pub mixed_refused : (p : Numbers) (f : ℕ) → MixedRefused p f
  pub together_passes : (p : Numbers) (f : ℕ) → TogetherPasses p f
  pub old_refused : (p : Numbers) (f : ℕ) → OldRefused p f
