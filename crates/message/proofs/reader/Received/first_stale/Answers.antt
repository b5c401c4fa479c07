use Rattle.std.proofs.Common.{◌≡◌, true, false, rules}
use borrow.Author.Tests.{tests}
use Rattle.std.proofs.lemmas.Iterator.{first_from_Range}
use Rattle.message.specs.Reader.{fresh_in}
use Rattle.message.proofs.Found.{first_not}
use Rattle.message.proofs.reader.Received.first_stale.Goals as goal

pub returns : goal.returns
returns c =
    let test = fresh_in c.args.self.now.wanted.now c.args.self.now.b.now in
    rw (← c.count.ensures)
    (first_not test _ _
    (first_from_Range _ _ _ _ (λ i. test i ≡ false) (λ i. test i ≡ true) c.find.ensures.ran
    (λ x q k. search (rules, tests)) (λ x q k. search (rules, tests))))
