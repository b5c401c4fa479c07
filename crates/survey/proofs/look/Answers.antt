-- `survey::look` meets its contract. The invariant: the set is that at the position, and the search from there on finds
-- what the search from the start finds.
use Rattle.std.proofs.lemmas.Option.{none-some, same_Some}
use mathlib.Core.Path.{◌≡◌, refl, sym, ap, ◌∙◌}
use Prim.Native.Nat.{ℕ, ◌+◌, ◌<◌}
use native.Mathlib.Omega.{arith}
use lib.ListN.{length}
use Rattle.ksets.specs.Sets.{sets, set_at}
use Rattle.ksets.proofs.Ranked.{set_rising}
use Rattle.document.specs.declared.Profile.{Profile}
use Rattle.document.specs.Reading.{ambiguous}
use Rattle.document.specs.Survey.{fails_at}
use Rattle.document.proofs.Fields.{fields, is_accepted}
use Rattle.document.proofs.Surveys.{range_none, range_here, range_later}
use Rattle.survey.proofs.look.Goals.{After-fails, In-loop-at}
use Rattle.survey.proofs.look.Goals as goal

pub loop-at-init : goal.loop-at-init
loop-at-init c = record { size = c.requires.set_len; here = λ _. c.requires.start_lt_end.2; rest = refl }

-- in a turn
module _ (c : In-loop-at) where
  abbrev p : Profile
  p = c.args.p

  abbrev at : ℕ
  at = c.loop-at.at

  inside : at < sets p.n p.k
  inside = omega (arith, c.loop-at-test.true, c.requires.start_lt_end.1)

  here : c.loop-at.set ≡ set_at 0 p.n p.k at
  here = c.loop-at.invariant.here c.loop-at-test.true

  size : length c.loop-at.set ≡ p.k
  size = c.loop-at.invariant.size

pub fails-requires : goal.fails-requires
fails-requires c = rw (here c) (set_rising _ _ _ (inside c))

-- the verdict on the set is that on its position
decided : (c : After-fails) → fails_at c.args.p c.loop-at.at ≡ c.fails.result
unfolding fails_at
decided c = sym (c.fails.ensures ∙ ap (ambiguous c.args.p) (c.loop-at.invariant.here c.loop-at-test.true))

pub returns-then-fails : goal.returns-then-fails
returns-then-fails c =
    let w = (goal.at.returns-then-fails c).In-loop-at in
    let yes = decided (goal.at.returns-then-fails c).After-fails ∙ c.if-fails.true in
    let first = sym (c.loop-at.invariant.rest ∙ range_here _ _ _ c.loop-at-test.true yes) in
    record {
      some = λ pos e. rw (← same_Some _ _ e) (first, c.loop-at-test.true);
      none = λ e. absurd (none-some _ (sym e));
      set = λ pos e. rw (← same_Some _ _ e) (here w);
      size = size w;
    }

pub go_on-requires : goal.go_on-requires
go_on-requires c =
    let w = (goal.at.go_on-requires c).In-loop-at in
    let acc = is_accepted c.p.view_is c.p.invariant in
    rw (fields c.p.view_is) (record {
      n_le_max_nodes = (acc.shape.few_nodes, rw (size w) c.requires.start_lt_end.1, c.loop-at-test.true);
      set_value = rw (size w) (here w);
    })

pub loop-at-preserved : goal.loop-at-preserved
loop-at-preserved c =
    let w = (goal.at.loop-at-preserved c).In-loop-at in
    let no = decided (goal.at.loop-at-preserved c).After-fails ∙ c.if-fails.false in
    record {
      size = c.go_on.auto.set ∙ size w;
      here = λ h. (rw (fields c.p.view_is) at c.go_on.ensures) h
          ∙ ap (λ (k : ℕ). set_at 0 (p w).n k (at w + 1)) (size w);
      rest = c.loop-at.invariant.rest ∙ range_later _ _ _ c.loop-at-test.true no;
    }

pub returns : goal.returns
returns c =
    let l = c.loop-at in
    record {
      some = λ pos e. absurd (none-some _ e);
      none = λ _. sym (l.invariant.rest ∙ range_none _ _ _ (omega arith));
      set = λ pos e. absurd (none-some _ e);
      size = l.invariant.size;
    }
