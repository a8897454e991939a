use Rattle.vt_screen.proofs.PortableRepeats.{agreed_itself}
use Rattle.vt_screen.proofs.RepeatRead.{pieces_kept, repeats_itself}
use Rattle.vt_screen.proofs.repeats.with_repeats.Goals as goal

pub returns-then-eq-clause-text : goal.returns-then-eq-clause-text
returns-then-eq-clause-text c = repeats_itself c.args.repeat c.args.cols c.args.room _

pub returns-in-Ok-false-clause-text : goal.returns-in-Ok-false-clause-text
returns-in-Ok-false-clause-text c = repeats_itself c.args.repeat c.args.cols c.args.room _

pub returns-then-eq-clause-pieces : goal.returns-then-eq-clause-pieces
returns-then-eq-clause-pieces c = pieces_kept _

pub returns-in-Ok-false-clause-pieces : goal.returns-in-Ok-false-clause-pieces
returns-in-Ok-false-clause-pieces c = pieces_kept _

pub returns-then-eq-clause-agrees : goal.returns-then-eq-clause-agrees
returns-then-eq-clause-agrees c = agreed_itself c.args.cols c.args.room _

pub returns-in-Ok-false-clause-agrees : goal.returns-in-Ok-false-clause-agrees
returns-in-Ok-false-clause-agrees c = agreed_itself c.args.cols c.args.room _
