use Rattle.std.proofs.Common.{◌+◌, ◌<◌, [], ◌∷◌, length, ap, ◌∙◌, subst, arith}
use Rattle.vt_cells.specs.Cell.{CellValue, blank, right_half, text_of, attrs_of, IsCell}
use Rattle.vt_rows.specs.Cells.{put_cells}
use Rattle.vt_rows.proofs.Edits.{IsPaired-put_wide, All-put_wide}
use Rattle.vt_rows.proofs.Steps.{HasRoom-left_blanked, wide_steps, wide_is}
use Rattle.vt_rows.proofs.cells.put_wide_cell.Goals as goal

pub blank_right-requires-clause-room : goal.blank_right-requires-clause-room
blank_right-requires-clause-room c =
    let h : c.args.column < length c.args.cells.now = omega arith in
    rw c.blank_left.ensures
    (HasRoom-left_blanked c.args.column (c.args.column + 1) c.args.cells.now c.requires.paired h)

pub returns-clause-value : goal.returns-clause-value
returns-clause-value c =
    let x = c.args.cell in
    let cells = c.args.cells.now in
    let k = c.args.column in
    rw (c.set_right_half.ensures, c.blank_right.ensures, c.blank_left.ensures, c.attrs.ensures)
    (wide_steps k (blank (attrs_of x)) x cells c.requires.paired c.requires.inside
    ∙ ap (λ (g : CellValue). put_cells k (blank (attrs_of x)) (g ∷ right_half ∷ []) 2 cells)
    (wide_is x c.requires.wide))

pub returns-clause-paired : goal.returns-clause-paired
returns-clause-paired c =
    rw (returns-clause-value c) (IsPaired-put_wide c.args.column (text_of c.args.cell)
    (attrs_of c.args.cell) c.args.cells.now c.requires.inside c.requires.paired)

pub returns-clause-sound : goal.returns-clause-sound
returns-clause-sound c = λ h all.
    rw (returns-clause-value c) (All-put_wide c.args.column (text_of c.args.cell)
    (attrs_of c.args.cell) c.args.cells.now (subst IsCell (wide_is c.args.cell c.requires.wide) h) all)
