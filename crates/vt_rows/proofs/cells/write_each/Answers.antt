use Rattle.std.proofs.Common.{◌<◌, length, arith}
use Rattle.vt_rows.proofs.Texts.{glyphs_of_is}
use Rattle.vt_rows.proofs.cells.write_each.Goals as goal

pub set_ascii-requires-clause-low : goal.set_ascii-requires-clause-low
set_ascii-requires-clause-low c =
    let lt : c.loop-k.k < length c.args.text.now = omega arith in
    (c.requires.printable c.loop-k.k 0 lt).0

pub set_ascii-requires-clause-high : goal.set_ascii-requires-clause-high
set_ascii-requires-clause-high c =
    let lt : c.loop-k.k < length c.args.text.now = omega arith in
    (c.requires.printable c.loop-k.k 0 lt).1

pub returns : goal.returns
returns c =
    glyphs_of_is c.args.attrs c.args.text.now c.loop-k.cells (omega arith)
    (λ k h. let lt : k < c.loop-k.k = omega arith in c.loop-k.invariant k lt)
