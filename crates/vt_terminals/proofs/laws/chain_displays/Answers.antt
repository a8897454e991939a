use Rattle.vt_terminals.proofs.Boxes.{box_chain_shows}
use Rattle.vt_terminals.proofs.laws.chain_displays.Goals as goal

pub returns : goal.returns
returns c = record { everywhere = box_chain_shows }
