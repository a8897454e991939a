use Rattle.vt_screen.proofs.short_moves.gaps.+write_gap.Given as goal

abbrev pub decreases-write_gap : goal.decreases-write_gap
decreases-write_gap l = l.count
