-- `half_pairs::positions` meets its contract. The invariant: the first q nodes have their positions.
use mathlib.Core.Path.{◌≡◌, ap, ◌∙◌}
use mathlib.Core.List.{List}
use Prim.Native.Nat.{ℕ, ◌<◌}
use native.Mathlib.Omega.{arith}
use lib.ListN.{length, set}
use Rattle.lists.specs.Listed.{listed}
use Rattle.ksets.proofs.Ranked.{risen_length}
use Rattle.document.specs.Accepted.{Accepted}
use Rattle.document.proofs.Fields.{fields, is_accepted}
use Rattle.document.proofs.Joined.{rising_below}
use Rattle.half_pairs.specs.HalfPairs.{named}
use Rattle.half_pairs.proofs.Named.{placed, placed_none, placed_next, placed_all}
use Rattle.half_pairs.proofs.positions.Goals.{Start}
use Rattle.half_pairs.proofs.positions.Goals as goal

module _ (s : Start) (acc : Accepted s.args.p) (q : ℕ) (h : q < length s.args.nodes.now) where
  inside : q < s.args.p.k
  inside = omega (arith, risen_length s.requires)

  below : named s.args.nodes.now q < 24
  below = omega (arith, rising_below s.requires q inside, acc.shape.few_nodes)

  few : q < 24
  few = omega (arith, inside, acc.shape.some_parity, acc.shape.few_nodes)

pub loop-q-init : goal.loop-q-init
loop-q-init c = rw (fields c.p.view_is) (placed_none c.args.p.k c.args.nodes.now)

pub overflow_cast-table-in-loop-q : goal.overflow_cast-table-in-loop-q
overflow_cast-table-in-loop-q c =
    omega (arith, few (goal.at.overflow_cast-table-in-loop-q c).Start (is_accepted c.p.view_is c.p.invariant) _ c.loop-q-test.true)

pub bounds-table-node : goal.bounds-table-node
bounds-table-node c = below (goal.at.bounds-table-node c).Start (is_accepted c.p.view_is c.p.invariant) _ c.loop-q-test.true

pub loop-q-preserved : goal.loop-q-preserved
loop-q-preserved c =
    let l = c.loop-q in
    let s = (goal.at.loop-q-preserved c).Start in
    let acc = is_accepted c.p.view_is c.p.invariant in
    let h = c.loop-q-test.true in
    ap (λ (x : List ℕ). set x (named c.args.nodes.now l.q) l.q) l.invariant
    ∙ placed_next c.requires l.q (inside s acc l.q h) (below s acc l.q h)

pub returns : goal.returns
returns c =
    let l = c.loop-q in
    let done : l.q ≡ c.args.p.k = omega (arith, risen_length c.requires) in
    l.invariant ∙ ap (λ (q : ℕ). listed 24 (placed c.args.p.k c.args.nodes.now q)) done ∙ placed_all c.requires
