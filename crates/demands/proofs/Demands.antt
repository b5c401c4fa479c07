-- The demands, all of them.
use Rattle.demands.specs.Demands.{Demands}
use Rattle.demands.proofs.Demand1.{demand_1}
use Rattle.demands.proofs.Demand2.{demand_2}
use Rattle.demands.proofs.Demand3.{demand_3}
use Rattle.demands.proofs.Survey.{survey_demands}

pub demands : Demands
demands = record { demand_1 = demand_1; demand_2 = demand_2; demand_3 = demand_3; survey = survey_demands }
