use Rattle.vt_screen.proofs.short_moves.gaps.+is_gap.Given as goal

abbrev pub decreases-is_gap : goal.decreases-is_gap
decreases-is_gap l = l.count
