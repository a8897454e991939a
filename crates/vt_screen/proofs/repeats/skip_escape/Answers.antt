use Rattle.vt_screen.proofs.RepeatTokens.{skips_two}
use Rattle.vt_screen.proofs.RepeatRooms.{keeps_restored, keeps_saved}
use Rattle.vt_screen.proofs.repeats.skip_escape.Goals as goal

pub returns-in-55 : goal.returns-in-55
returns-in-55 c =
    skips_two c.args.cols c.args.room c.args.room c.args.bytes.now 0x1B 0x37 c.if-bytes-lt2.false c.requires.escape c.in-55.is
    (keeps_saved c.args.cols c.args.room)

pub returns-in-56 : goal.returns-in-56
returns-in-56 c =
    skips_two c.args.cols c.args.room 0 c.args.bytes.now 0x1B 0x38 c.if-bytes-lt2.false c.requires.escape c.in-56.is
    (keeps_restored c.args.cols c.args.room)
