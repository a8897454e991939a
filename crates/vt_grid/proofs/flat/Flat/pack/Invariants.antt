use Rattle.vt_grid.proofs.Packing.{PackedTo}
use Rattle.vt_grid.proofs.flat.Flat.pack.Given as goal

abbrev pub invariant-loop-row : goal.invariant-loop-row
invariant-loop-row l = record { state : PackedTo l.rows l.row l.free l.fn.self l.self }
