use Rattle.std.proofs.Common.{◌≡◌, ◌+◌, ◌&&◌, ◌∙◌, sym, ap, arith, false, nat_eq, length}
use Rattle.std.proofs.lemmas.Bool.Decides.{nat_tests}
use Rattle.vt_cells.specs.Cell.{is_right_half}
use Rattle.vt_rows.specs.Cells.{at}
use Rattle.vt_redraw.proofs.Filling.{torn_at}
use Rattle.vt_redraw.proofs.picture_row.PictureRow.is_torn.Goals as goal

pub returns-else-from : goal.returns-else-from
returns-else-from c =
    let cells = c.args.self.now.cells in
    let col = c.args.col in
    let size = c.cols.ensures in
    let here = c.from.ensures in
    let there = c.from-2.ensures in
    let other = c.if-from.false in
    let e : nat_eq (c.from.result + 1) c.from-2.result ≡ false = grind (arith, nat_tests) in
    let f : nat_eq (col + 1) (length cells) ≡ false = grind (arith, nat_tests) in
    e ∙ (sym (ap (λ b. b && is_right_half (at cells col)) f) ∙ torn_at cells col)
