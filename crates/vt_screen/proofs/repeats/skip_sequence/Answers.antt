use Rattle.vt_screen.proofs.RepeatTokens.{skips_final}
use Rattle.vt_screen.proofs.repeats.skip_sequence.Goals as goal

pub returns-then-keeps_column : goal.returns-then-keeps_column
returns-then-keeps_column c =
    skips_final c.args.cols c.args.room c.args.bytes.now c.in_ok-last.last c.requires c.in_ok-last.ensures
    (c.keeps_column.ensures c.if-keeps_column.true)
