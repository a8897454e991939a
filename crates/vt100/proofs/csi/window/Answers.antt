-- The requested size of a window manipulation.
use Rattle.std.proofs.Common.{arith, ◌∙◌}
use Rattle.vt_screen.specs.Calls.{Resize}
use Rattle.vt100.proofs.Stepping.{sized, called}
use Rattle.vt100.proofs.csi.window.Goals as goal

pub returns : goal.returns
returns g c =
    rw (sized c.args.sequence.parameters.now.groups c.args.screen.now
    c.get.result c.get-2.result c.number_or_own-rows.result c.number_or_own-cols.result
    (omega (arith, c.number.ensures, c.if-number-ne8.false)) (c.get.ensures.value ∙ c.size.ensures.rows)
    (c.get-2.ensures.value ∙ c.size.ensures.cols) c.number_or_own-rows.ensures c.number_or_own-cols.ensures)
    (called g.CB.Callbacks.does (Resize c.number_or_own-rows.result c.number_or_own-cols.result) _ _ _ _ c.resize.ensures)
