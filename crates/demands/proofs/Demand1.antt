-- Demand 1, whole.
use Rattle.demands.specs.Demand1.{Demand1}
use Rattle.demands.proofs.Profile.{demand_1_profile}
use Rattle.demands.proofs.Encoding.{demand_1_encode}
use Rattle.demands.proofs.Plan.{demand_1_plan}
use Rattle.demands.proofs.Rebuild.{demand_1_rebuild}
use Rattle.demands.proofs.Bundle.{demand_1_write}
use Rattle.demands.proofs.Reading.{demand_1_read}
use Rattle.demands.proofs.Survey.{demand_1_survey}
use Rattle.demands.proofs.Program.{demand_1_program}

pub demand_1 : Demand1
demand_1 = record {
  profile = demand_1_profile;
  encode = demand_1_encode;
  plan = demand_1_plan;
  write = demand_1_write;
  rebuild = demand_1_rebuild;
  read = demand_1_read;
  survey = demand_1_survey;
  program = demand_1_program;
}
