use Rattle.ksets.proofs.+rank_from.Given as goal

-- proposed from what the function passes where it calls itself
abbrev pub decreases-rank_from : goal.decreases-rank_from
decreases-rank_from l = l.n
