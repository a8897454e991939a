use Rattle.vt_screen.proofs.ReadElements.{element_copied}
use Rattle.vt_screen.proofs.short_moves.place_after.Goals as goal

pub returns-then-not-keeps_place-clause-replaces : goal.returns-then-not-keeps_place-clause-replaces
returns-then-not-keeps_place-clause-replaces c =
    element_copied c.args.size.rows c.args.size.cols c.args.known.at c.args.element c.args.head.now c.requires
