-- `encode::put_parity` meets its contract: the column is the combination of the data columns by the node's weights.
use mathlib.Core.Path.{◌≡◌, ap, ap₂, ◌∙◌}
use mathlib.Core.List.{List, ◌++◌}
use Prim.Native.Nat.{ℕ, ◌*◌}
use native.Mathlib.Nat.{mul_assoc}
use native.Mathlib.Omega.{arith}
use lib.ListN.{length, take, drop, replicate}
use lib.Seq.{length-take-le}
use Rattle.strips.specs.Strips.{combination_of}
use Rattle.document.proofs.Fields.{fields, is_accepted}
use Rattle.document.proofs.Bounds.{room, column_bound}
use Rattle.lists.proofs.Lent.{front}
use Rattle.coefficients.specs.Data.{data_weights}
use Rattle.coefficients.proofs.Data.{data_weights_length, data_weight}
use Rattle.encode.proofs.Rows.{parity_column}
use Rattle.encode.proofs.put_parity.Goals.{After-parity_weights}
use Rattle.encode.proofs.put_parity.Goals as goal

-- the part of the array that was lent holds the weights
module _ (c : After-parity_weights) where
  abbrev k : ℕ
  k = c.args.p.k

  weights : c.parity_weights.new.out ≡ data_weights k c.args.j
  weights =
      (rw (fields c.p.view_is) at c.parity_weights.ensures)
      ∙ ap (λ (m : ℕ). data_weights m c.args.j)
      (length-take-le k (replicate 24 0) (omega (arith, (is_accepted c.p.view_is c.p.invariant).shape)))

  lent : take k (c.parity_weights.new.out ++ drop k (replicate 24 0)) ≡ data_weights k c.args.j
  lent = front c.parity_weights.new.out _ (ap length weights ∙ data_weights_length k c.args.j) ∙ weights

pub combine-requires : goal.combine-requires
combine-requires c =
    let p = c.args.p in
    let acc = is_accepted c.p.view_is c.p.invariant in
    let w = (goal.at.combine-requires c).After-parity_weights in
    let count = ap length (lent w) ∙ data_weights_length p.k c.args.j in
    rw (fields c.p.view_is) (record {
      few = omega (arith, acc.shape, count);
      short = omega (arith, c.requires.input_len.1, column_bound p acc);
      reach = λ q h.
          let r = room q p.k (p.a * p.s) (omega (arith, h, count)) in
          omega (arith, r, c.requires.input_len, mul_assoc p.k p.a p.s);
    })

pub returns : goal.returns
returns c =
    let p = c.args.p in
    let j = c.args.j in
    let w = (goal.at.returns c).After-parity_weights in
    (rw (fields c.p.view_is) at c.combine.ensures)
    ∙ ap₂ (λ (l : List ℕ) (m : ℕ). combination_of l c.args.input.now 0 (p.a * p.s) m) (lent w) c.requires.input_len.1
    ∙ parity_column p c.args.input.now j (data_weights p.k j) (data_weights_length p.k j) (data_weight p.k j)
