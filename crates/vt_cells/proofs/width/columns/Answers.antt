use Rattle.vt_cells.proofs.Glyphs.{columns_of-ascii, columns_of-given, columns_of-low, columns_of-high}
use Rattle.vt_cells.proofs.width.columns.Goals as goal
use Rattle.std.proofs.Common.{arith, sym, ◌∙◌, ap, Some}

pub returns-then-code-lt127 : goal.returns-then-code-lt127
returns-then-code-lt127 c = sym (columns_of-ascii c.args.c (omega arith) (omega arith))

pub returns-in-Some : goal.returns-in-Some
returns-in-Some c =
    ap Some c.min.ensures ∙ sym (columns_of-given c.args.c c.in-Some.width (sym c.width.ensures.value ∙ c.in-Some.is))

pub returns-then-code-lt256 : goal.returns-then-code-lt256
returns-then-code-lt256 c = sym (columns_of-low c.args.c (sym c.in-None.ensures.value) (omega arith))

pub returns-else-code-lt256 : goal.returns-else-code-lt256
returns-else-code-lt256 c = sym (columns_of-high c.args.c (sym c.in-None.ensures.value) (omega arith))
