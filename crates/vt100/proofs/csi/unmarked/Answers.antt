-- SGR and CUP, decided by their final bytes.
use Rattle.std.proofs.Common.{◌-◌, refl}
use Rattle.vt_grid.specs.declared.grid.moves.CursorMove.TheVariants.{To}
use Rattle.vt_grid.specs.declared.page_step.PageStep.TheVariants.{Move}
use Rattle.vt_screen.specs.Controls.{number_or, seen_of}
use Rattle.vt_screen.specs.Steps.{OnPage}
use Rattle.vt100.proofs.Stepping.{unmarked_place, unmarked_sgr, all_done, stepping}
use Rattle.vt100.proofs.csi.unmarked.Goals as goal

pub returns-then-byte-eq109 : goal.returns-then-byte-eq109
returns-then-byte-eq109 g c =
    rw (unmarked_sgr c.args.parameters.now.groups c.args.byte (seen_of c.args.screen.now) c.if-byte-eq109.true)
    (all_done g.CB.Callbacks.does _ _ _ _ _ c.perform.ensures)

pub returns-then-byte-eq72 : goal.returns-then-byte-eq72
returns-then-byte-eq72 g c =
    rw (unmarked_place c.args.parameters.now.groups c.args.byte (seen_of c.args.screen.now) c.if-byte-eq72.true)
    (all_done g.CB.Callbacks.does _ _ _ _ _
    (stepping g.CB.Callbacks.does
    (OnPage (Move (To (number_or 1 0 c.args.parameters.now.groups - 1) (number_or 1 1 c.args.parameters.now.groups - 1))))
    c.args.callbacks.now c.args.screen.now c.move_to.new.screen refl c.move_to.ensures))
