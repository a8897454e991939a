use Rattle.std.proofs.Common.{string_bytes}
use Rattle.vt_screen.proofs.PortableMoves.{route_keeps}
use Rattle.vt_screen.proofs.ReadRoutes.{move_appended}
use Rattle.vt_screen.proofs.short_moves.add_move.Goals as goal

pub returns-in-Some-clause-appends : goal.returns-in-Some-clause-appends
returns-in-Some-clause-appends c =
    let (from, at, leads, portable) = c.in-Some.ensures.leads in
    move_appended c.args.known.form c.args.size.rows c.args.size.cols c.args.known.at from c.args.to c.in-Some.route
    c.args.head.now (string_bytes c.args.short.now) (string_bytes c.write.new.text) at c.requires.leads leads
    c.requires.row c.requires.col c.in-Some.ensures.shorter c.in_ok-write.ensures.text
    (λ p. route_keeps c.args.size.rows c.args.size.cols c.args.known.at from c.args.to c.in-Some.route c.args.head.now at
    c.requires.settles leads (portable p) c.requires.row)
