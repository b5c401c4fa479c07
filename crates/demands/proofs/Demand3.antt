-- Demand 3, whole.
use Rattle.demands.specs.Demand3.{Demand3}
use Rattle.demands.proofs.Plan.{demand_3_places, demand_3_walk, demand_3_order, one_walk, demand_3_plan}
use Rattle.demands.proofs.Strips.{fits, one_column}
use Rattle.demands.proofs.Rebuild.{
  demand_3_rebuild,
  same_strips,
  same_answer,
  cut_passes,
  same_column,
  same_bundle,
  cut_column,
  cut_rebuilds,
  cut_for_wanted,
  other_edition,
  whole_bundle,
}
use Rattle.demands.proofs.Bundle.{demand_3_write, strips_at}
use Rattle.demands.proofs.Editions.{editions_aside, either_rebuilds}
use Rattle.demands.proofs.Recordings.{one_recording, mixed_refused, together_passes, old_refused}

pub demand_3 : Demand3
demand_3 = record {
  places = demand_3_places;
  walk = demand_3_walk;
  order = demand_3_order;
  one_walk = one_walk;
  plan = demand_3_plan;
  fits = fits;
  one_column = one_column;
  rebuild = demand_3_rebuild;
  same_strips = same_strips;
  same_bundle = same_bundle;
  same_column = same_column;
  cut_for_wanted = cut_for_wanted;
  other_edition = other_edition;
  editions_aside = editions_aside;
  either_rebuilds = either_rebuilds;
  same_answer = same_answer;
  write = demand_3_write;
  strips_at = strips_at;
  cut_passes = cut_passes;
  cut_column = cut_column;
  cut_rebuilds = cut_rebuilds;
  whole_bundle = whole_bundle;
  one_recording = one_recording;
  mixed_refused = mixed_refused;
  together_passes = together_passes;
  old_refused = old_refused;
}
