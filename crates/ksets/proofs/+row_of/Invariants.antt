use Rattle.ksets.proofs.+row_of.Given as goal

-- proposed from what the function passes where it calls itself
abbrev pub decreases-row_of : goal.decreases-row_of
decreases-row_of l = l.n
