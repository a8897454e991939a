use Rattle.vt_rows.proofs.Rows.{IsRow-trimmed_row}
use Rattle.vt_rows.proofs.capture.trimmed.Goals as goal

pub invariant_of-result : goal.invariant_of-result
invariant_of-result c = rw c.trimmed_len.ensures.value (IsRow-trimmed_row _ _ c.row.invariant)
