-- `survey::look` meets its contract. The invariant: the set is that at the position, and the search from there on finds
-- what the search from the start finds.
use mathlib.Core.Path.{◌≡◌}
use Prim.Native.Nat.{◌-◌, ◌<◌}
use lib.ListN.{length}
use Rattle.ksets.specs.Sets.{set_at}
use Rattle.document.specs.Survey.{fails_at, first_in}
use Rattle.survey.proofs.look.Given as goal

abbrev pub invariant-loop-at : goal.invariant-loop-at
invariant-loop-at l = record {
  size : length l.set ≡ l.p.k;
  here : l.at < l.end → l.set ≡ set_at 0 l.p.n l.p.k l.at;
  rest : first_in (fails_at l.p) l.start (l.end - l.start) ≡ first_in (fails_at l.p) l.at (l.end - l.at);
}
