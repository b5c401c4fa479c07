-- `plan::put_plan` meets its contract: the places that are read at the plan's nodes are the plan.
use mathlib.Core.Path.{◌≡◌, sym, ap, subst, ◌∙◌}
use mathlib.Core.List.{List}
use Prim.Native.Nat.{ℕ, ◌≤◌, ◌<◌}
use native.Mathlib.Omega.{arith}
use lib.ListN.{length, get_or, take}
use lib.Seq.{length-take-le}
use Rattle.lists.proofs.Put.{wrote_same, wrote_front, wrote_fits}
use Rattle.lists.specs.Each.{Each}
use Rattle.lists.proofs.Each.{each_at}
use Rattle.document.specs.Plan.{walk_of, nodes_over, plan_bytes, planned}
use Rattle.plan.specs.Steps.{places_of}
use Rattle.plan.proofs.Walked.{nodes_below, plan_places}
use Rattle.plan.proofs.put_plan.Goals.{After-list_nodes-end, Start}
use borrow.Author.Rules.{rules}
use Rattle.document.specs.Profile.{Accepted}
use Rattle.plan.proofs.put_plan.Goals as goal

-- past the nodes' listing
module _ (c : After-list_nodes-end) where
  accepted : Accepted c.args.p
  accepted = search rules

  abbrev nodes : List ℕ
  nodes = take c.list_nodes-end.result c.list_nodes-end.new.out

  fits : c.list_nodes-end.result ≤ length c.list_nodes-end.new.out
  fits = wrote_fits c.list_nodes-end.ensures

  listed : nodes ≡ nodes_over c.args.p.k (walk_of c.args.p c.args.f)
  listed = (wrote_front c.list_nodes-end.ensures).1

  below : (i : ℕ) → i < length nodes → get_or nodes i 0 < c.args.p.n
  below =
      each_at 0 (subst (Each (λ j. j < c.args.p.n)) (sym listed)
      (nodes_below c.args.p accepted c.args.f c.requires.0))

  bytes : plan_bytes (places_of c.args.p.a c.args.f nodes)
      ≡ plan_bytes (planned c.args.p c.args.f)
  bytes =
      ap (λ (js : List ℕ). plan_bytes (places_of c.args.p.a c.args.f js)) listed
      ∙ ap plan_bytes (plan_places c.args.p accepted c.args.f c.requires.0)

pub slice_bounds-nodes-end : goal.slice_bounds-nodes-end
slice_bounds-nodes-end c = fits (goal.at.slice_bounds-nodes-end c).After-list_nodes-end

pub slice_bounds-put_nodes-end : goal.slice_bounds-put_nodes-end
slice_bounds-put_nodes-end c = sym (length-take-le _ _ ((fits (goal.at.slice_bounds-put_nodes-end c).After-list_nodes-end)))

pub put_nodes-requires : goal.put_nodes-requires
put_nodes-requires c =
    (below (goal.at.put_nodes-requires c).After-list_nodes-end, omega (arith, ap length (bytes (goal.at.put_nodes-requires c).After-list_nodes-end), c.requires.1))

pub returns : goal.returns
returns c =
    wrote_same (bytes (goal.at.returns c).After-list_nodes-end) c.put_nodes.ensures
