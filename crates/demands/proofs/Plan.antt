-- Planning: demand 1, and the planned places of demand 3.
use Rattle.std.specs.Prelude.{Ok}
use mathlib.Core.Path.{◌≡◌, refl, ap, ap₂, ◌∙◌}
use mathlib.Core.Bool.{Bool}
use mathlib.Core.List.{List, [], ◌∷◌, ◌++◌}
use Prim.Native.Nat.{ℕ, ◌+◌, ◌*◌, ◌<◌}
use native.Mathlib.Decide.{ℕ_discrete}
use native.Mathlib.Omega.{arith}
use lib.ListN.{length, drop}
use borrow.Author.Tests.{eq-eqb, ne_eqb}
use Rattle.lists.specs.Listed.{around}
use Rattle.lists.specs.Each.{Rises}
use Rattle.lists.proofs.Around.{around_zero, rising_rises, around_rises, once_one}
use Rattle.document.specs.declared.Numbers.{Numbers}
use Rattle.document.specs.declared.Profile.{Profile}
use Rattle.document.specs.declared.Node.{Node}
use Rattle.document.specs.declared.Place.{Place}
use Rattle.document.specs.declared.Refusal.TheVariants.{OutOfRange}
use Rattle.document.specs.Refusals.{number_of, index_of, answer_value}
use Rattle.document.specs.Profile.{profile_of}
use Rattle.document.specs.Plan.{
  is_own,
  is_diagonal,
  is_off_diagonal,
  Walk,
  Complete,
  walk_start,
  walk_of,
  plan_over,
  planned,
  plan_bytes,
  plan_tests,
  plan_with,
  plan_of,
}
use Rattle.document.proofs.Decides.{decides_lt, decides_not, decided}
use Rattle.document.proofs.Bounds.{A>0}
use Rattle.document.proofs.Walks.{Sound, complete_sound, walk_complete, planned_over}
use Rattle.document.proofs.Price.{over_price}
use Rattle.document.proofs.Planned.{over_distinct, over_off_lost}
use Rattle.document.proofs.Chosen.{planned_within}
use Rattle.demands.specs.Tables.{Decided, none, line}
use Rattle.demands.specs.Plan.{
  plan_sentences,
  Demand1Plan,
  Demand3Places,
  Demand3Walk,
  distance_after,
  WalkRises,
  Demand3Order,
  OneWalk,
  Demand3Plan,
}
use Rattle.demands.proofs.Tables.{by_name}
use Rattle.demands.proofs.Profile.{Granted, CallFor, call_for}

-- ---- the call
plan_decided : (p : Profile) (f : Node) (x : List ℕ) → Decided (plan_tests p f x) (plan_sentences p f x)
unfolding plan_tests plan_sentences
plan_decided p f x =
    line refl (decides_not _ (decides_lt f.0 p.n)) (λ h. line refl (decides_lt (length x) _) (λ l. none))

module _ (p : Numbers) (f : ℕ) (x : List ℕ) where
  abbrev lost : Node
  lost = record { 0 = f }

  abbrev plan_after : Profile → List ℕ
  plan_after p = plan_bytes (planned p lost) ++ drop (2 * length (planned p lost)) x

  plan_call : CallFor p (λ p. plan_tests p lost x) (λ p. plan_sentences p lost x) ((4, 0) ∷ (5, 0) ∷ []) x (plan_of p f x)
      (Ok (length (planned (profile_of p) lost)), plan_after (profile_of p))
  unfolding plan_of plan_with plan_sentences number_of index_of
  plan_call =
      call_for p x (λ p. plan_tests p lost x) (λ p. plan_sentences p lost x) (λ p. length (planned p lost)) plan_after
      (λ acc. plan_decided _ lost x) refl

  pub demand_1_plan : Demand1Plan p f x
  demand_1_plan = plan_call.exactly

-- ---- the planned places
pub demand_3_places : Demand3Places
demand_3_places p acc f h w complete =
    let sound : Sound p.n p.a f w = complete_sound p acc f h w complete in
    record {
      within = planned_within p acc f h w sound;
      distinct = over_distinct p.a (A>0 p acc) p.k f w sound;
      off_lost = over_off_lost p.a (A>0 p acc) p.k f w sound;
      price = over_price p acc f h w complete;
    }

pub demand_3_walk : Demand3Walk
demand_3_walk p f h = (walk_complete p f h, planned_over p f)

pub demand_3_order : Demand3Order
unfolding walk_start
demand_3_order p f h = record {
  own = rising_rises p.n (is_own p.a f);
  edition_1 = λ e.
      let first : walk_start p f ≡ 0 = rw (eq-eqb p.edition 1 e) in
      (rises_from_zero first (is_diagonal p.a f), rises_from_zero first (is_off_diagonal p.a f));
  edition_2 = λ e.
      let second : walk_start p f ≡ f.0 + 1 = rw (ne_eqb p.edition 1 (λ one. omega arith)) in
      (rises_around second (is_diagonal p.a f), rises_around second (is_off_diagonal p.a f));
}
  where
    rises_from_zero : {b : ℕ} → b ≡ 0 → (P : ℕ → Bool) → Rises (λ j. j) (around p.n b P)
    rises_from_zero e P = rw (e, around_zero) (rising_rises p.n P)

    rises_around : {b : ℕ} → b ≡ f.0 + 1 → (P : ℕ → Bool) → Rises (distance_after p.n f) (around p.n b P)
    rises_around e P = rw e (around_rises p.n (f.0 + 1) P (omega arith))

-- two walks over the same candidates that rise alike are one
pub one_walk : OneWalk
one_walk p acc f h w complete rises =
    planned_over p f ∙ ap (plan_over p.a p.k f) (same (ℕ_discrete p.edition 1))
  where
    here : Complete p.n p.a f (walk_of p f)
    here = walk_complete p f h

    order : WalkRises p f (walk_of p f)
    order = demand_3_order p f h

    made : {o d s o' d' s' : List ℕ} → o ≡ o' → d ≡ d' → s ≡ s'
        → ◌≡◌ {A = Walk} (record { own = o; diagonal = d; off_diagonal = s })
        (record { own = o'; diagonal = d'; off_diagonal = s' })
    made {o} {d} {s} {o'} {d'} {s'} e₁ e₂ e₃ =
        ap (λ (l : List ℕ). record { own = l; diagonal = d; off_diagonal = s }) e₁
        ∙ ap₂ (λ (u v : List ℕ). record { own = o'; diagonal = u; off_diagonal = v }) e₂ e₃

    alike : {d : ℕ → ℕ} → Rises d (walk_of p f).diagonal × Rises d (walk_of p f).off_diagonal
        → Rises d w.diagonal × Rises d w.off_diagonal → walk_of p f ≡ w
    alike u v =
        made (once_one p.n (is_own p.a f) here.own complete.own order.own rises.own)
        (once_one p.n (is_diagonal p.a f) here.diagonal complete.diagonal u.0 v.0)
        (once_one p.n (is_off_diagonal p.a f) here.off_diagonal complete.off_diagonal u.1 v.1)

    same : Dec (p.edition ≡ 1) → walk_of p f ≡ w
    same (yes e) = alike (order.edition_1 e) (rises.edition_1 e)
    same (no e) =
        let two : p.edition ≡ 2 = omega (arith, e, acc.first_edition, acc.last_edition) in
        alike (order.edition_2 two) (rises.edition_2 two)

pub demand_3_plan : Demand3Plan
unfolding plan_sentences answer_value
demand_3_plan p f x e = record {
  holds = ap (λ o. o.1) granted.is_done;
  number = ap (λ o. answer_value o.0) granted.is_done;
  places = rw planned_over
      (demand_3_places (profile_of p) granted.accepted node below (walk_of (profile_of p) node)
      (walk_complete (profile_of p) node below));
}
  where
    node : Node
    node = record { 0 = f }

    plan : List Place
    plan = planned (profile_of p) node

    granted : Granted p (plan_sentences (profile_of p) node x) (plan_of p f x)
        (Ok (length plan), plan_bytes plan ++ drop (2 * length plan) x)
    granted = (plan_call p f x).granted e

    below : f < p.n
    below = decided _ (decides_lt f p.n) (λ n. granted.refuted {r = OutOfRange} (search by_name))
