-- `lists::position_of` meets its contract: the position found is that of the definition.
use mathlib.Core.Path.{◌≡◌, ap, ◌∙◌}
use Prim.Native.Nat.{ℕ}
use lib.ListN.{length}
use borrow.Author.Rules.{rules}
use borrow.Author.Tests.{tests}
use Rattle.std.specs.Prelude.{Option, position, ◌==◌}
use Rattle.std.specs.Option.{unwrap_or}
use Rattle.std.proofs.lemmas.Iterator.{YieldsList-from_slice}
use Rattle.std.proofs.lemmas.Iterator.Search.{position_from_yields_List}
use Rattle.lists.proofs.Positions.{position_found}
use Rattle.lists.proofs.position_of.Goals as goal

pub returns : goal.returns
returns c =
    let found : c.position-found.result ≡ position (λ (x : ℕ). x == c.args.v) c.args.list.now =
    position_from_yields_List (λ (x : ℕ). x == c.args.v) _ _ _ c.position-found.ensures.ran
    (YieldsList-from_slice c.args.list.now (search rules)) (λ x b q k. search (rules, tests)) in
    c.unwrap_or.ensures ∙ ap (λ (r : Option ℕ). unwrap_or r (length c.args.list.now)) found
    ∙ position_found c.args.list.now c.args.v
