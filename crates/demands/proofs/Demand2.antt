-- Demand 2, whole.
use Rattle.demands.specs.Demand2.{Demand2}
use Rattle.demands.proofs.Encoding.{one_array, array_is_encoded, demand_2_encode}
use Rattle.demands.proofs.Reading.{demand_2_reading}

pub demand_2 : Demand2
demand_2 = record {
  encode = demand_2_encode;
  one_array = one_array;
  array_is_encoded = array_is_encoded;
  reading = demand_2_reading;
}
