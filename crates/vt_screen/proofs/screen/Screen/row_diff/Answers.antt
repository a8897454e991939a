use Rattle.std.proofs.Common.{◌<◌, length, subst, sym, arith}
use Rattle.vt_redraw.specs.Picture.{Picture, SamePictureSize}
use Rattle.vt_screen.specs.Shown.{display}
use Rattle.vt_screen.proofs.Shown.{shown_height, same_shown}
use Rattle.vt_screen.proofs.screen.Screen.row_diff.Goals as goal

pub write_row_diff-requires-clause-size : goal.write_row_diff-requires-clause-size
write_row_diff-requires-clause-size c =
    subst (λ (p : Picture). SamePictureSize p c.view-2.result) (sym c.view.ensures.value)
    (subst (λ (p : Picture). SamePictureSize (display c.args.self.now) p)
    (sym c.view-2.ensures.value) (same_shown c.args.self.now c.args.prev.now c.requires.size))

pub write_row_diff-requires-clause-inside : goal.write_row_diff-requires-clause-inside
write_row_diff-requires-clause-inside c =
    let height = shown_height c.args.self.now in
    let inside = c.requires.inside in
    subst (λ (p : Picture). c.args.row < length p.rows) (sym c.view.ensures.value) (omega arith)
