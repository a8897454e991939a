use Rattle.std.proofs.Common.{string_bytes}
use Rattle.vt_screen.proofs.ShortMoves.{moved_instead}
use Rattle.vt_screen.proofs.short_moves.add_element.Goals as goal

pub returns-in_ok-at-in-Some-clause-appends : goal.returns-in_ok-at-in-Some-clause-appends
returns-in_ok-at-in-Some-clause-appends c = λ cells.
    moved_instead c.args.size.rows c.args.size.cols cells c.args.known c.in_ok-at-in-Some.at c.in-Some.to c.args.head.now
    (string_bytes c.args.short.now) (string_bytes c.add_move.new.short) c.in-Some.ensures.leads c.in-Some.ensures.row
    c.in-Some.ensures.col c.in_ok-at-in-Some.ensures.appends

pub returns-in_ok-write_str-in-None-clause-appends : goal.returns-in_ok-write_str-in-None-clause-appends
returns-in_ok-write_str-in-None-clause-appends c = λ cells. record {
  text = c.args.head.now;
  appends = c.in_ok-write_str-in-None.ensures.ok;
  stands = c.known_after.ensures cells;
}
