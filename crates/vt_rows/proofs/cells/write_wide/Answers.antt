use Rattle.std.proofs.Common.{◌≡◌, ◌≢◌, ℕ, ◌<◌, Some, length, subst, sym, arith}
use Rattle.vt_cells.specs.Glyph.{columns_of}
use Rattle.vt_rows.proofs.Texts.{wide_glyphs_of_is}
use Rattle.vt_rows.proofs.cells.write_wide.Goals as goal

pub set_glyph-requires-clause-reported : goal.set_glyph-requires-clause-reported
set_glyph-requires-clause-reported c =
    let lt : c.loop-k.k < length c.args.text.now = omega arith in
    subst (λ (x : ℕ). x ≢ 0xFFFD) (sym c.index-text-k.is) (c.requires.wide c.loop-k.k c.index-text-k.result lt).1.0

pub set_glyph-requires-clause-columns : goal.set_glyph-requires-clause-columns
set_glyph-requires-clause-columns c =
    let lt : c.loop-k.k < length c.args.text.now = omega arith in
    subst (λ (x : ℕ). columns_of x ≡ Some 2) (sym c.index-text-k.is)
    (c.requires.wide c.loop-k.k c.index-text-k.result lt).1.1

pub returns : goal.returns
returns c =
    wide_glyphs_of_is c.args.attrs c.args.text.now c.loop-k.cells (omega arith)
    (λ k h. let lt : k < c.loop-k.k = omega arith in c.loop-k.invariant k lt)
