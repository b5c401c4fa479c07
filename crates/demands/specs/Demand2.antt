-- Demand 2, whole: each sentence and the statement that says it. Shown in proofs/Demand2.antt: demand_2.
--
-- Demand2 : demand 2
use Rattle.demands.specs.Encoding.{OneArray, ArrayIsEncoded, Demand2Encode}
use Rattle.demands.specs.Reading.{Demand2Reading}

pub record Demand2 : Type 0 where
  -- 'Encoding writes the array that document 01 defines.'
  pub encode : Demand2Encode
  -- There is one such array for given data, and `encoded` computes it.
  pub one_array : OneArray
  pub array_is_encoded : ArrayIsEncoded
  -- 'Reading back from k named drives returns the only data whose array has those columns. A request in due form is
  -- refused exactly when some two different data sets give equal columns on those drives.'
  pub reading : Demand2Reading
