use Rattle.vt_packed.proofs.ItemLists.{items_back}
use Rattle.vt_packed.proofs.PackedCells.{cells_back}
use Rattle.vt_packed.proofs.laws.round_trip.Goals as goal

pub returns-clause-cells : goal.returns-clause-cells
returns-clause-cells c = cells_back

pub returns-clause-texts : goal.returns-clause-texts
returns-clause-texts c = items_back
