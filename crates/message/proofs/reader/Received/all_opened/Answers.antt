use mathlib.Core.Path.{ap, refl, ◌∙◌}
use Prim.Native.Nat.{ℕ}
use native.Mathlib.Nat.{sub-zero}
use Rattle.std.proofs.Common.{rules}
use borrow.Author.Tests.{tests}
use Rattle.std.proofs.lemmas.Iterator.{YieldsList-from_range}
use Rattle.std.proofs.lemmas.Iterator.Search.{all_from_yields_List}
use Rattle.lists.specs.Listed.{all}
use Rattle.message.specs.Reader.{opened_in}
use Rattle.message.proofs.Found.{all_listed}
use Rattle.message.proofs.reader.Received.all_opened.Goals as goal

pub returns : goal.returns
returns c =
    let test = opened_in c.args.self.now.wanted.now c.args.self.now.b.now in
    all_from_yields_List test _ _ _ c.all.ensures.ran
    (YieldsList-from_range 0 c.count.result c.count.result refl (sub-zero _)) (λ x b q k. search (rules, tests))
    ∙ all_listed test c.count.result ∙ ap (λ (n : ℕ). all n test) c.count.ensures
