use Rattle.std.proofs.Common.{◌<◌, length, arith}
use Rattle.vt_rows.proofs.Texts.{glyphs_of_is}
use Rattle.vt_rows.proofs.cells.write_short.Goals as goal

pub ascii-requires-clause-low : goal.ascii-requires-clause-low
ascii-requires-clause-low c =
    let lt : c.loop-k.k < length c.args.text.now = omega arith in
    (c.requires.printable c.loop-k.k 0 lt).0

pub ascii-requires-clause-high : goal.ascii-requires-clause-high
ascii-requires-clause-high c =
    let lt : c.loop-k.k < length c.args.text.now = omega arith in
    (c.requires.printable c.loop-k.k 0 lt).1

pub put_short-requires-clause-old : goal.put_short-requires-clause-old
put_short-requires-clause-old c =
    c.loop-k.invariant.rest c.loop-k.k c.index-cells-k.result (omega arith) (omega arith)

pub returns : goal.returns
returns c =
    glyphs_of_is c.args.attrs c.args.text.now c.loop-k.cells (omega arith)
    (λ k h. let lt : k < c.loop-k.k = omega arith in c.loop-k.invariant.written k lt)
