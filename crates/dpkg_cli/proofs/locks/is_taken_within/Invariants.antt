use Rattle.dpkg_cli.proofs.locks.is_taken_within.Given as goal

abbrev pub decreases-loop-left : goal.decreases-loop-left
decreases-loop-left l = l.left
