use Rattle.vt_cells.proofs.Packing.{head_made}
use Rattle.vt_cells.proofs.head.Head.of.Goals as goal

pub returns : goal.returns
returns c =
    rw c.from.ensures
    (head_made _ _ _ _ c.bits-low.ensures.small c.bits-low.ensures.back c.word-high.ensures.back)
