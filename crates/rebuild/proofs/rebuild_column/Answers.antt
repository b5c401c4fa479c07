-- `rebuild::rebuild_column` meets its contract: the parts of the two arrays that were lent hold the plan's nodes and
-- the strips folded for them.
use mathlib.Core.Path.{◌≡◌, sym, ap, ◌∙◌}
use mathlib.Core.List.{List, ◌++◌}
use Prim.Native.Nat.{ℕ, ◌+◌, ◌-◌, ◌*◌, ◌≤◌}
use native.Mathlib.Nat.{mul-le-mul}
use native.Mathlib.Omega.{arith}
use lib.ListN.{length, take, drop, replicate}
use lib.Seq.{length-take-le}
use Rattle.lists.proofs.Put.{wrote_front, wrote_fits}
use Rattle.lists.proofs.Lent.{front_fits, front}
use Rattle.document.specs.Plan.{walk_of, nodes_over, chosen_over, planned}
use Rattle.document.specs.Rebuild.{given_at, rebuilt_of}
use Rattle.plan.proofs.Walked.{nodes_count}
use Rattle.rebuild.specs.Folded.{folded_of}
use Rattle.rebuild.specs.Column.{rows_of}
use Rattle.rebuild.proofs.Folded.{folded_length}
use Rattle.rebuild.proofs.Column.{column_rebuilt}
use Rattle.rebuild.proofs.rebuild_column.Goals.{After-fold, After-list_nodes-count, Start}
use borrow.Author.Rules.{rules}
use Rattle.document.specs.Profile.{Accepted}
use Rattle.document.proofs.Fields.{fields}
use Rattle.rebuild.proofs.rebuild_column.Goals as goal

-- past the nodes' listing
module _ (c : After-list_nodes-count) where
  accepted : Accepted c.args.p
  accepted = search rules

  abbrev count : ℕ
  count = c.list_nodes-count.result

  abbrev nodes : List ℕ
  nodes = take count c.list_nodes-count.new.out

  nodes_fit : count ≤ length c.list_nodes-count.new.out
  nodes_fit = wrote_fits c.list_nodes-count.ensures

  plan_nodes_lem : nodes ≡ nodes_over c.args.p.k (walk_of c.args.p c.args.f)
  plan_nodes_lem = (wrote_front c.list_nodes-count.ensures).1

  nodes_length : length nodes ≡ count
  nodes_length = length-take-le count c.list_nodes-count.new.out nodes_fit

  -- fewer than 24 strips of at most 512 bytes
  strips_fit : count * c.args.p.s ≤ 12288
  strips_fit =
      let p = c.args.p in
      let acc = accepted in
      let size : count ≡ p.a - 1 + p.k =
      (wrote_front c.list_nodes-count.ensures).0 ∙ nodes_count p acc c.args.f c.requires.column_len.0 in
      mul-le-mul {n₁ = count} {m₁ = p.s} {n₂ = 24} {m₂ = 512}
      (omega (arith, size, acc.shape.enough_parity, acc.shape.few_nodes, acc.shape.some_parity)) acc.short

pub overflow_mul-size : goal.overflow_mul-size
overflow_mul-size c =
    rw (fields c.p.view_is) (omega (arith, strips_fit (goal.at.overflow_mul-size c).After-list_nodes-count))

pub slice_bounds-folded-end : goal.slice_bounds-folded-end
slice_bounds-folded-end c =
    rw (fields c.p.view_is) (strips_fit (goal.at.slice_bounds-folded-end c).After-list_nodes-count)

pub slice_bounds-fold-end : goal.slice_bounds-fold-end
slice_bounds-fold-end c =
    rw (fields c.p.view_is)
    (sym (length-take-le _ _ (strips_fit (goal.at.slice_bounds-fold-end c).After-list_nodes-count)))

pub slice_bounds-nodes-end : goal.slice_bounds-nodes-end
slice_bounds-nodes-end c = nodes_fit (goal.at.slice_bounds-nodes-end c).After-list_nodes-count

pub slice_bounds-fold-end-2 : goal.slice_bounds-fold-end-2
slice_bounds-fold-end-2 c = sym (nodes_length (goal.at.slice_bounds-fold-end-2 c).After-list_nodes-count)

pub fold-requires : goal.fold-requires
fold-requires c =
    let listed = (goal.at.fold-requires c).After-list_nodes-count in (
      plan_nodes_lem listed,
      rw (fields c.p.view_is)
          (length-take-le _ _ (strips_fit listed) ∙ ap (λ (m : ℕ). m * c.args.p.s) (sym (nodes_length listed))),
    )

-- past the folding, with what was known of the nodes before
module _ (c : After-fold)
    (size : length (take c.list_nodes-count.result c.list_nodes-count.new.out) ≡ c.list_nodes-count.result) where
  abbrev held : List ℕ
  held = c.fold.new.out

  written : length held ≡ c.list_nodes-count.result * c.args.p.s
  written = ap length c.fold.ensures ∙ folded_length _ _ _ _ ∙ ap (λ (m : ℕ). m * c.args.p.s) size

  held_fits : (rest : List ℕ) → c.list_nodes-count.result * c.args.p.s ≤ length (held ++ rest)
  held_fits rest = front_fits held rest written

pub slice_bounds-folded-end-2 : goal.slice_bounds-folded-end-2
slice_bounds-folded-end-2 c =
    let s = goal.at.slice_bounds-folded-end-2 c in
    rw (fields c.p.view_is) (held_fits s.After-fold (nodes_length s.After-list_nodes-count) _)

pub slice_bounds-rebuild_rows-end : goal.slice_bounds-rebuild_rows-end
slice_bounds-rebuild_rows-end c =
    let s = goal.at.slice_bounds-rebuild_rows-end c in
    rw (fields c.p.view_is) (sym (length-take-le _ _ (held_fits s.After-fold (nodes_length s.After-list_nodes-count) _)))

pub slice_bounds-nodes-end-2 : goal.slice_bounds-nodes-end-2
slice_bounds-nodes-end-2 c = nodes_fit (goal.at.slice_bounds-nodes-end-2 c).After-list_nodes-count

pub slice_bounds-rebuild_rows-end-2 : goal.slice_bounds-rebuild_rows-end-2
slice_bounds-rebuild_rows-end-2 c = sym (nodes_length (goal.at.slice_bounds-rebuild_rows-end-2 c).After-list_nodes-count)

pub rebuild_rows-requires : goal.rebuild_rows-requires
rebuild_rows-requires c =
    let s = goal.at.rebuild_rows-requires c in
    let size = nodes_length s.After-list_nodes-count in
    record {
      nodes = (c.requires.column_len.0, plan_nodes_lem s.After-list_nodes-count);
      column_len = (
        c.requires.column_len.1,
        rw (fields c.p.view_is)
            (length-take-le _ _ (held_fits s.After-fold size _) ∙ ap (λ (m : ℕ). m * c.args.p.s) (sym size)),
      );
    }

pub returns : goal.returns
unfolding rebuilt_of
returns c =
    let p = c.args.p in
    let f = c.args.f in
    let s = goal.at.returns c in
    let x = given_at (planned p f) c.args.src.now c.args.first c.args.stride in
    (rw (fields c.p.view_is) at c.rebuild_rows.ensures)
    ∙ ap (rows_of p f (walk_of p f).own (chosen_over p.k (walk_of p f)))
    (front c.fold.new.out _ (written s.After-fold (nodes_length s.After-list_nodes-count))
    ∙ c.fold.ensures ∙ ap (folded_of p f x) (plan_nodes_lem s.After-list_nodes-count))
    ∙ column_rebuilt p (accepted s.After-list_nodes-count) f c.requires.column_len.0 _
