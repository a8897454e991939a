use Rattle.std.proofs.Common.{refl}
use Rattle.vt_packed.specs.Packed.{padded}
use Rattle.vt_packed.proofs.row.PackedRow.new.Goals as goal

pub returns : goal.returns
unfolding padded
returns c = rw c.new.ensures.items refl
