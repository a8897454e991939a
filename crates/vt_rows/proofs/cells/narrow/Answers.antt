use Rattle.std.proofs.Common.{◌≤◌, false, [], ◌∷◌, arith}
use Rattle.vt_cells.specs.Cell.{glyph, cell_made_wide}
use Rattle.vt_rows.specs.Cells.{at}
use Rattle.vt_rows.proofs.Edits.{IsPaired-narrowed_at, All-narrowed_at}
use Rattle.vt_rows.proofs.Steps.{narrow_steps, left_blanked-none, read-right}
use Rattle.vt_rows.proofs.cells.narrow.Goals as goal

pub set_wide-requires : goal.set_wide-requires
set_wide-requires c =
    let le : c.args.column ≤ c.args.column = omega arith in
    rw (
      c.space_right.ensures,
      read-right c.args.column c.args.column (glyph (0x20 ∷ []) false c.args.attrs)
          c.index-cells-column.result c.args.cells.now c.requires.paired le c.requires.inside,
    ) c.requires.fits

pub returns-clause-value : goal.returns-clause-value
returns-clause-value c =
    let k = c.args.column in
    let cells = c.args.cells.now in
    let le : k ≤ k = omega arith in
    let space = glyph (0x20 ∷ []) false c.args.attrs in
    let steps = rw (left_blanked-none k cells c.requires.shown) at
    (narrow_steps k space (cell_made_wide false (at cells k)) cells c.requires.paired c.requires.inside) in
    rw (
      c.set_wide.ensures,
      c.space_right.ensures,
      read-right k k space c.index-cells-column.result cells c.requires.paired le c.requires.inside,
    ) steps

pub returns-clause-paired : goal.returns-clause-paired
returns-clause-paired c =
    rw (returns-clause-value c) (IsPaired-narrowed_at c.args.column c.args.attrs
    c.args.cells.now c.requires.inside c.requires.shown c.requires.paired)

pub returns-clause-sound : goal.returns-clause-sound
returns-clause-sound c =
    λ all. rw (returns-clause-value c) (All-narrowed_at c.args.column c.args.attrs c.args.cells.now c.requires.fits all)
