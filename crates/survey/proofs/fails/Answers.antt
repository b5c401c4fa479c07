-- `survey::fails` meets its contract: a set is ambiguous where the system of its half pairs has a column without a pivot.
use Rattle.std.proofs.Common.{◌≡◌, ◌∙◌, Bool, refl, ap, is_some, is_err, option_map}
use borrow.Author.Rules.{rules}
use Rattle.std.specs.Prelude.{Ok, Err}
use Rattle.std.specs.Result.{result_err}
use Rattle.square.specs.Elimination.{Eliminated}
use Rattle.half_pairs.proofs.System.{end_ambiguous, count_few, system_end_lem}
use Rattle.survey.proofs.fails.Goals as goal

-- what the column without a pivot tells
abbrev stuck : Eliminated → Bool
stuck v = is_some (option_map (λ e. e.column) (result_err v))

stuck_err : (v : Eliminated) → stuck v ≡ is_err v
stuck_err (Ok u) = refl
stuck_err (Err e) = refl

pub judge-requires : goal.judge-requires
judge-requires c =
    let few = count_few c.of_nodes-h.ensures (search rules) c.requires in
    (few, few)

pub returns : goal.returns
returns c =
    c.is_some.ensures ∙ ap is_some c.judge.ensures
    ∙ ap stuck (system_end_lem c.of_nodes-h.ensures c.small_system-lines.ensures) ∙ stuck_err _
    ∙ end_ambiguous c.args.p c.args.set.now (search rules) c.requires
