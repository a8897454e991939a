use Rattle.std.proofs.Common.{length, refl}
use Rattle.vt_rows.proofs.Pieces.{whole_are, whole_joined}
use Rattle.vt_rows.proofs.capture.plain.basic_formatted_to_plain_indexed.Goals as goal

pub returns-clause-pieces : goal.returns-clause-pieces
returns-clause-pieces c = whole_are c.args.capture.now (length c.args.capture.now) refl

pub returns-clause-joined : goal.returns-clause-joined
returns-clause-joined c = whole_joined c.args.capture.now (length c.args.capture.now) refl
