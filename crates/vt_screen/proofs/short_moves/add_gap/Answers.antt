use Rattle.std.proofs.Common.{arith, string_bytes}
use Rattle.vt_screen.proofs.ShortMoves.{gap_instead}
use Rattle.vt_screen.proofs.short_moves.add_gap.Goals as goal

pub write_gap-requires-clause-short : goal.write_gap-requires-clause-short
write_gap-requires-clause-short c =
    let inside = c.requires.gap.inside in
    let narrow = c.requires.gap.narrow in
    omega (arith, inside, narrow)

pub returns-clause-appends : goal.returns-clause-appends
returns-clause-appends c =
    gap_instead c.args.prev.now c.args.known c.known_after.result c.args.gap c.args.letter.now
    (string_bytes c.args.short.now) (string_bytes c.write_gap.new.short) (string_bytes c.write_str.new.self) c.row.result
    c.size_of.result.rows c.size_of.result.cols c.requires.gap c.requires.letter c.row.ensures.value c.size_of.ensures.rows
    c.size_of.ensures.cols c.known_after.ensures c.in_ok-write_gap.ensures.text c.in_ok-write_str.ensures.ok
