use Rattle.std.proofs.Common.{subst, sym}
use Rattle.vt_redraw.specs.Picture.{Picture, SamePictureSize}
use Rattle.vt_screen.specs.Shown.{display}
use Rattle.vt_screen.proofs.Shown.{same_shown}
use Rattle.vt_screen.proofs.screen.Screen.shortened.Goals as goal

pub likely_move-requires : goal.likely_move-requires
likely_move-requires c =
    subst (λ (p : Picture). SamePictureSize p c.view-2.result) (sym c.view.ensures.value)
    (subst (λ (p : Picture). SamePictureSize (display c.args.self.now) p) (sym c.view-2.ensures.value)
    (same_shown c.args.self.now c.args.prev.now c.requires.size))
