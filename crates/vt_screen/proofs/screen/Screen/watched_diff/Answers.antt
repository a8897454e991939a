use Rattle.std.proofs.Common.{subst, sym}
use Rattle.vt_redraw.specs.Picture.{Picture, SamePictureSize}
use Rattle.vt_screen.specs.Shown.{display}
use Rattle.vt_screen.proofs.Shown.{same_shown}
use Rattle.vt_screen.proofs.screen.Screen.watched_diff.Goals as goal

pub write_contents_diff_in-requires : goal.write_contents_diff_in-requires
write_contents_diff_in-requires c =
    subst (λ (p : Picture). SamePictureSize p c.view-2.result) (sym c.view.ensures.value)
    (subst (λ (p : Picture). SamePictureSize (display c.args.self.now) p)
    (sym c.view-2.ensures.value) (same_shown c.args.self.now c.args.prev.now c.requires))
