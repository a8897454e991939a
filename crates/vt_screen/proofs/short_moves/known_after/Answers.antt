use Rattle.std.proofs.Common.{refl}
use Rattle.vt_screen.proofs.ShortOutput.{copied_stands}
use Rattle.vt_screen.proofs.short_moves.known_after.Goals as goal

pub returns : goal.returns
returns c = λ cells.
    copied_stands c.args.size.rows c.args.size.cols cells c.args.known _ c.args.element c.args.head.now c.requires
    c.place_after-at.ensures.replaces c.place_after-at.ensures.printed c.kept_after.ensures c.is_default_after.ensures refl
    c.place_after-at.ensures.certain
