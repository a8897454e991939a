-- The empty text has the one number 0.
use Rattle.vt_scan.proofs.ParameterNumbers.{table-empty}
use Rattle.vt_scan.proofs.parameters.Parameters.new.Goals as goal

pub returns : goal.returns
returns c = table-empty
