-- `half_pairs::joined_partner` meets its contract.
use borrow.Author.Rules.{rules}
use Rattle.ksets.proofs.Ranked.{risen_length}
use Rattle.document.specs.Accepted.{Accepted}
use Rattle.document.proofs.Reading.{joined_within}
use Rattle.half_pairs.proofs.joined_partner.Goals as goal

pub joined_place-q-requires : goal.joined_place-q-requires
joined_place-q-requires c = (risen_length c.requires.0, c.requires.1)

pub partner-requires : goal.partner-requires
partner-requires c =
    let acc : Accepted c.args.p = search rules in
    rw c.joined_place-q.ensures (joined_within c.args.p acc c.args.nodes.now c.requires.0 c.args.z c.requires.1)
