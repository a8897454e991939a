use Rattle.vt_terminals.proofs.Boxes.{box_difference_shows}
use Rattle.vt_terminals.proofs.laws.difference_displays.Goals as goal

pub returns : goal.returns
returns c = record { everywhere = box_difference_shows }
