-- `reading::put_data_in` meets its contract: each step leaves what the next is lent.
use mathlib.Core.Path.{◌≡◌, sym, ap, ap₂, ◌∙◌}
use mathlib.Core.List.{List, ◌++◌}
use Prim.Native.Nat.{ℕ, ◌*◌, ◌≤◌}
use native.Mathlib.Omega.{arith}
use lib.ListN.{length, take, drop}
use lib.Seq.{length-take-le}
use Rattle.lists.proofs.Lent.{front_fits, front}
use Rattle.document.specs.declared.Profile.{Profile}
use Rattle.document.proofs.Fields.{fields}
use Rattle.half_pairs.specs.declared.HalfPairs.{HalfPairs}
use Rattle.half_pairs.specs.HalfPairs.{HalfPairsOf}
use Rattle.reading.specs.Steps.{known_strips, known_partner_strips, completed, base_columns, data_by}
use Rattle.reading.proofs.Partners.{halves_room}
use Rattle.reading.proofs.put_data_in.Goals.{After-known_partners}
use Rattle.reading.proofs.put_data_in.Goals as goal

-- the right-hand sides fit the output
module _ {p : Profile} {nodes : List ℕ} {h : HalfPairs} (made : HalfPairsOf p nodes h) (out : List ℕ) where
  fits : length out ≡ p.k * p.a * p.s → h.count * p.s ≤ length out
  fits whole = omega (arith, halves_room made)

pub slice_bounds-known_partners-end-2 : goal.slice_bounds-known_partners-end-2
slice_bounds-known_partners-end-2 c =
    let fit = fits c.requires.nodes_rising.1 c.args.out.now c.requires.columns_len.1 in
    rw (fields c.p.view_is) (sym (length-take-le _ _ fit))

pub known_partners-requires-clause-out_len : goal.known_partners-requires-clause-out_len
known_partners-requires-clause-out_len c =
    let fit = fits c.requires.nodes_rising.1 c.args.out.now c.requires.columns_len.1 in
    rw (fields c.p.view_is) (length-take-le _ _ fit, c.known_strips.auto.out ∙ c.requires.columns_len.2)

-- past the partners' strips
module _ (c : After-known_partners) where
  abbrev size : ℕ
  size = c.args.h.now.count * c.args.p.s

  written : length c.known_partners.new.out ≡ size
  written =
      (rw (fields c.p.view_is) at c.known_partners.auto.out)
      ∙ length-take-le _ _ (fits c.requires.nodes_rising.1 c.args.out.now c.requires.columns_len.1)

  lent : take size (c.known_partners.new.out ++ drop size c.args.out.now)
      ≡ known_partner_strips c.args.p c.args.nodes.now (known_strips c.args.p c.args.nodes.now c.args.columns.now)
  lent =
      front c.known_partners.new.out _ written ∙ c.known_partners.ensures
      ∙ ap (known_partner_strips c.args.p c.args.nodes.now) c.known_strips.ensures

pub slice_bounds-complete-end-2 : goal.slice_bounds-complete-end-2
slice_bounds-complete-end-2 c =
    let w = (goal.at.slice_bounds-complete-end-2 c).After-known_partners in
    rw (fields c.p.view_is) (sym (length-take-le _ _ (front_fits c.known_partners.new.out _ (written w))))

pub complete-requires-clause-y_len : goal.complete-requires-clause-y_len
complete-requires-clause-y_len c =
    let w = (goal.at.complete-requires-clause-y_len c).After-known_partners in
    rw (fields c.p.view_is) (
      c.known_strips.auto.out ∙ c.requires.columns_len.2,
      length-take-le _ _ (front_fits c.known_partners.new.out _ (written w)),
    )

pub returns : goal.returns
unfolding data_by
returns c =
    let a = c.args in
    let y : List ℕ = known_strips a.p a.nodes.now a.columns.now in
    c.put_columns.ensures
    ∙ ap (base_columns a.p a.nodes.now)
    ((rw (fields c.p.view_is) at c.complete.ensures)
    ∙ ap₂ (λ (r z : List ℕ). completed a.p a.nodes.now a.lines r a.h.now.count z)
    (lent (goal.at.returns c).After-known_partners) c.known_strips.ensures
    ∙ ap (λ (m : ℕ). completed a.p a.nodes.now a.lines (known_partner_strips a.p a.nodes.now y) m y)
    c.requires.nodes_rising.1.count)
