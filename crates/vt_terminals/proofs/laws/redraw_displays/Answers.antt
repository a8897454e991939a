use Rattle.vt_terminals.proofs.Boxes.{box_redraw_shows}
use Rattle.vt_terminals.proofs.laws.redraw_displays.Goals as goal

pub returns : goal.returns
returns c = record { everywhere = box_redraw_shows }
