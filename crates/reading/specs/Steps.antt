-- What the steps of reading back leave. Strips are those of the named nodes' columns joined in list order, z = qA + i
-- for row i of the q-th named node. x are the joined columns, y strips of the named nodes, r right-hand sides of the
-- system of the half pairs, a strip for each.
--
-- known_strip p nodes x z            : what x gives of the base symbols of strip z: all of them where its partner is
--                                     named, otherwise the stored ones
-- known_strips p nodes x             : the same of all strips
-- known_partner_strip p nodes y z     : the sum of the strips y of one row, with the weights at the partner of the half
--                                     pair z
-- known_partner_strips p nodes y      : the same for each half pair, in their order: the right-hand sides
-- partner_strip p nodes line r       : the sum of the right-hand sides with a line of the inverse: a half pair's partner
-- completed_strip p nodes line r e y : y with it added to the e-th half pair, times its factor
-- completed p nodes lines r e y     : y with the first e half pairs completed so
-- base_column p nodes y j            : the base strips of node j, from those of the named nodes, y
-- base_columns p nodes y             : those of the data nodes: the data
-- data_by p nodes lines x            : the data, by the lines of the inverse of the system
-- reading_answer p nodes x y         : what reading back in due form answers and leaves in y, the buffer lent for the
--                                     data
use Rattle.document.specs.Refusals.{Answer}
use Rattle.std.specs.Prelude.{cond, List, ℕ, zero, suc, ◌*◌, ◌/◌, ◌%◌, length, get_or, take, Ok, Err}
use Rattle.lists.specs.Listed.{listed}
use Rattle.algebra.specs.HalfPairs.{known}
use Rattle.strips.specs.Strips.{combination_of, strip_at, added_scaled}
use Rattle.square.specs.declared.Line.{Line}
use Rattle.square.specs.Steps.{line_at}
use Rattle.document.specs.declared.Profile.{Profile}
use Rattle.document.specs.declared.Refusal.TheVariants.{Ambiguous}
use Rattle.document.specs.ByteField.{bytes, byte, number}
use Rattle.document.specs.Encoding.{factor_at}
use Rattle.document.specs.Reading.{ambiguous, data_from}
use Rattle.lists.specs.Positions.{position_in}
use Rattle.half_pairs.specs.HalfPairs.{named, is_named, partner_at, half_pairs, half_pair_at, weight_row, joined_at}

module _ (p : Profile) (nodes : List ℕ) where
  open p use {k, a as A, s as S}

  unfoldable pub known_strip : List ℕ → ℕ → List ℕ
  known_strip x z =
      listed S
      (λ b. number
      (known bytes A k byte (factor_at p) (named nodes) (position_in nodes) (joined_at p nodes x b) (z % A) (z / A)))

  unfoldable pub known_strips : List ℕ → List ℕ
  known_strips x = listed (k * A * S) (λ e. get_or (known_strip x (e / S)) (e % S) 0)

  unfoldable pub known_partner_strip : List ℕ → ℕ → List ℕ
  known_partner_strip y z =
      combination_of (weight_row k nodes (partner_at p nodes z).node.0) y ((partner_at p nodes z).row.0 * S) (A * S) S

  unfoldable pub known_partner_strips : List ℕ → List ℕ
  known_partner_strips y =
      listed (length (half_pairs p nodes) * S) (λ o. get_or (known_partner_strip y (half_pair_at p nodes (o / S))) (o % S) 0)

  unfoldable pub partner_strip : List ℕ → List ℕ → List ℕ
  partner_strip line r = combination_of (take (length (half_pairs p nodes)) line) r 0 S S

  unfoldable pub completed_strip : List ℕ → List ℕ → ℕ → List ℕ → List ℕ
  completed_strip line r e y =
      let z : ℕ = half_pair_at p nodes e in
      added_scaled (number (factor_at p (z % A) (named nodes (z / A) % A))) (z * S) (partner_strip line r) y

  unfoldable pub completed : List Line → List ℕ → ℕ → List ℕ → List ℕ
  completed lines r zero y = y
  completed lines r (suc e) y = completed_strip (line_at lines e) r e (completed lines r e y)

  unfoldable pub base_column : List ℕ → ℕ → List ℕ
  base_column y j =
      cond (is_named k nodes j) (strip_at y (position_in nodes j * (A * S)) (A * S))
      (combination_of (weight_row k nodes j) y 0 (A * S) (A * S))

  unfoldable pub base_columns : List ℕ → List ℕ
  base_columns y = listed (k * (A * S)) (λ e. get_or (base_column y (e / (A * S))) (e % (A * S)) 0)

  unfoldable pub data_by : List Line → List ℕ → List ℕ
  data_by lines x =
      let y : List ℕ = known_strips x in
      base_columns (completed lines (known_partner_strips y) (length (half_pairs p nodes)) y)

  unfoldable pub reading_answer : List ℕ → List ℕ → Answer × List ℕ
  reading_answer x y = cond (ambiguous p nodes) (Err Ambiguous, y) (Ok 0, data_from p nodes x)
