use Rattle.vt_terminals.proofs.CanvasLaws.{canvas_laws}
use Rattle.vt_terminals.proofs.laws.canvas_obeys.Goals as goal

pub returns : goal.returns
returns c = record { laws = canvas_laws }
