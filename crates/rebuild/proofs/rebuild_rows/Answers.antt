-- `rebuild::rebuild_rows` meets its contract: the plan's nodes are the others of the group, then the chosen ones.
use mathlib.Core.Path.{◌≡◌, ap, ap₂, ◌∙◌}
use mathlib.Core.List.{List}
use Prim.Native.Nat.{ℕ, ◌+◌, ◌-◌, ◌*◌}
use native.Mathlib.Nat.{add-mul}
use native.Mathlib.Omega.{arith}
use lib.ListN.{length}
use Rattle.document.specs.Plan.{walk_of, chosen_over}
use Rattle.plan.proofs.Walked.{nodes_count}
use Rattle.rebuild.specs.Column.{rows_of}
use Rattle.rebuild.proofs.Column.{own_part, chosen_part, nodes_of}
use Rattle.rebuild.proofs.rebuild_rows.Goals.{After-split_at, Start}
use borrow.Author.Rules.{rules}
use Rattle.document.specs.Profile.{Accepted}
use Rattle.document.proofs.Fields.{fields, is_accepted}
use Rattle.rebuild.proofs.rebuild_rows.Goals as goal

module _ (s : Start) where
  accepted : Accepted s.args.p
  accepted = search rules

  count : length s.args.nodes.now ≡ s.args.p.a - 1 + s.args.p.k
  count = ap length s.requires.nodes.1 ∙ nodes_count s.args.p accepted s.args.f s.requires.nodes.0

module _ (c : After-split_at) where
  acc : Accepted c.args.p
  acc = is_accepted c.p.view_is c.p.invariant

  own : c.split_at.result.0.now ≡ (walk_of c.args.p c.args.f).own
  own =
      let nodes = c.requires.nodes in
      (rw (fields c.p.view_is) at c.split_at.ensures.front)
      ∙ own_part c.args.p acc c.args.f nodes.0 c.args.nodes.now nodes.1

  chosen : c.split_at.result.1.now ≡ chosen_over c.args.p.k (walk_of c.args.p c.args.f)
  chosen =
      let nodes = c.requires.nodes in
      (rw (fields c.p.view_is) at c.split_at.ensures.back)
      ∙ chosen_part c.args.p acc c.args.f nodes.0 c.args.nodes.now nodes.1

pub split_at-requires : goal.split_at-requires
split_at-requires c = rw (fields c.p.view_is) (omega (arith, count (goal.at.split_at-requires c).Start))

pub put_rows-requires-clause-nodes : goal.put_rows-requires-clause-nodes
put_rows-requires-clause-nodes c =
    let s = (goal.at.put_rows-requires-clause-nodes c).After-split_at in
    let lost = c.requires.nodes.0 in
    (lost, rw (own s, chosen s) (nodes_of c.args.p (acc s) c.args.f lost))

pub put_rows-requires-clause-column_len : goal.put_rows-requires-clause-column_len
put_rows-requires-clause-column_len c =
    let p = c.args.p in
    let size = count (goal.at.put_rows-requires-clause-column_len c).Start in (
      c.requires.column_len.0,
      omega (arith, c.requires.column_len.1, ap (λ (m : ℕ). m * p.s) size, add-mul (p.a - 1) p.k p.s),
    )

pub returns : goal.returns
returns c =
    let s = (goal.at.returns c).After-split_at in
    c.put_rows.ensures ∙ ap₂ (λ (l m : List ℕ). rows_of c.args.p c.args.f l m c.args.folded.now) (own s) (chosen s)
