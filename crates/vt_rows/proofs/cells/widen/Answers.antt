use Rattle.std.proofs.Common.{◌+◌, ◌<◌, ◌≤◌, true, length, arith}
use Rattle.vt_cells.specs.Cell.{blank, cell_made_wide}
use Rattle.vt_rows.specs.Cells.{at}
use Rattle.vt_rows.proofs.Edits.{IsPaired-widened_at, All-widened_at}
use Rattle.vt_rows.proofs.Steps.{wide_steps, left_blanked-none, read-right}
use Rattle.vt_rows.proofs.cells.widen.Goals as goal

pub set_wide-requires : goal.set_wide-requires
set_wide-requires c =
    let lt : c.args.column < length c.args.cells.now = omega arith in
    let le : c.args.column ≤ c.args.column + 1 = omega arith in
    rw (
      c.blank_right.ensures,
      read-right c.args.column (c.args.column + 1) (blank c.args.attrs)
          c.index-cells-column.result c.args.cells.now c.requires.paired le lt,
    ) c.requires.fits

pub returns-clause-value : goal.returns-clause-value
returns-clause-value c =
    let k = c.args.column in
    let cells = c.args.cells.now in
    let lt : k < length cells = omega arith in
    let le : k ≤ k + 1 = omega arith in
    let steps = rw (left_blanked-none k cells c.requires.shown) at
    (wide_steps k (blank c.args.attrs) (cell_made_wide true (at cells k)) cells c.requires.paired c.requires.inside) in
    rw (
      c.right_half.ensures,
      c.set_wide.ensures,
      c.blank_right.ensures,
      read-right k (k + 1) (blank c.args.attrs) c.index-cells-column.result cells c.requires.paired le lt,
    ) steps

pub returns-clause-paired : goal.returns-clause-paired
returns-clause-paired c =
    rw (returns-clause-value c) (IsPaired-widened_at c.args.column c.args.attrs
    c.args.cells.now c.requires.inside c.requires.glyph c.requires.shown c.requires.paired)

pub returns-clause-sound : goal.returns-clause-sound
returns-clause-sound c =
    λ all. rw (returns-clause-value c) (All-widened_at c.args.column c.args.attrs c.args.cells.now c.requires.fits all)
