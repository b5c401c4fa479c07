use Rattle.ksets.proofs.+write_set.Given as goal

-- proposed from what the function passes where it calls itself
abbrev pub decreases-write_set : goal.decreases-write_set
decreases-write_set l = l.n
