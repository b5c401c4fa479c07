-- `survey::first_failing` meets its contract.
use Rattle.std.proofs.lemmas.Option.{none-some}
use mathlib.Core.Path.{sym, ap, ◌∙◌}
use Prim.Native.Nat.{ℕ, ◌<◌}
use native.Mathlib.Omega.{arith}
use Rattle.ksets.specs.Sets.{set_at}
use Rattle.document.proofs.Fields.{fields, is_accepted}
use Rattle.document.proofs.Surveys.{range_none}
use Rattle.survey.proofs.first_failing.Goals.{Else-start-end}
use Rattle.survey.proofs.first_failing.Goals as goal

pub returns-then-start-end : goal.returns-then-start-end
returns-then-start-end c =
    record {
      some = λ pos e. absurd (none-some _ e);
      none = λ _. sym (range_none _ _ _ c.if-start-end.true);
      set = λ pos e. absurd (none-some _ e);
      size = c.requires.0;
    }

-- there is a set to look at
some : (c : Else-start-end) → c.args.start < c.args.end
some c = omega (arith, c.if-start-end.false, c.requires.1)

pub unrank-requires : goal.unrank-requires
unrank-requires c =
    let more = some (goal.at.unrank-requires c).Else-start-end in
    let acc = is_accepted c.p.view_is c.p.invariant in
    rw (fields c.p.view_is) (acc.shape.few_nodes, rw c.requires.0 (omega (arith, more, c.requires.2)))

pub look-requires : goal.look-requires
look-requires c =
    let a = c.args in
    let set = (rw (fields c.p.view_is) at c.unrank.ensures) ∙ ap (λ (k : ℕ). set_at 0 a.p.n k a.start) c.requires.0 in
    record {
      set_len = c.unrank.auto.set ∙ c.requires.0;
      start_lt_end = (some (goal.at.look-requires c).Else-start-end, c.requires.2, set);
    }
