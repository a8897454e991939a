use Rattle.std.proofs.Common.{subst, sym}
use Rattle.vt_redraw.specs.Picture.{Picture, SamePictureSize}
use Rattle.vt_redraw.proofs.Moving.{moved_size}
use Rattle.vt_screen.specs.Shown.{display}
use Rattle.vt_screen.proofs.Shown.{same_shown}
use Rattle.vt_screen.proofs.screen.Screen.write_moved_diff.Goals as goal

pub write_contents_diff_in-requires : goal.write_contents_diff_in-requires
write_contents_diff_in-requires g c =
    let before = display c.args.prev.now in
    subst (λ (p : Picture). SamePictureSize p c.moved_view-moved.result) (sym c.view-2.ensures.value)
    (subst (λ (p : Picture). SamePictureSize (display c.args.self.now) p) (sym c.moved_view-moved.ensures)
    (moved_size (display c.args.self.now) before c.args.band
    (same_shown c.args.self.now c.args.prev.now c.requires.size)))
