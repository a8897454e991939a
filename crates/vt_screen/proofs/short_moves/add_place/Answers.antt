use Rattle.std.proofs.Common.{◌<◌, arith, rules, length, string_bytes}
use Rattle.vt_screen.specs.ShortMoves.{row_start_text}
use Rattle.vt_screen.proofs.PortableMoves.{row_start_keeps}
use Rattle.vt_screen.proofs.ReadRoutes.{row_start_appended}
use Rattle.vt_screen.proofs.short_moves.add_place.Goals as goal

pub returns-then-row_start_len-head-clause-appends : goal.returns-then-row_start_len-head-clause-appends
returns-then-row_start_len-head-clause-appends c =
    let small : c.args.to.row < 65535 = search rules in
    let shorter : length (row_start_text c.args.to.row) < length c.args.head.now = search rules in
    row_start_appended c.args.known.form c.args.size.rows c.args.size.cols c.args.known.at c.args.to c.args.head.now
    (string_bytes c.args.short.now) (string_bytes c.write_row_start.new.short) c.requires.leads small c.requires.row
    c.requires.col c.if-to-eq0.true (omega (arith, shorter)) c.in_ok-write_row_start.ensures.text
    (row_start_keeps c.args.size.rows c.args.size.cols c.args.known.at c.args.to c.args.head.now c.requires.settles small)
