use Rattle.emit.proofs.+write_large.Given as goal

abbrev pub decreases-write_large : goal.decreases-write_large
decreases-write_large l = l.k
