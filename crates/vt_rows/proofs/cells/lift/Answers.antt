use Rattle.std.proofs.Common.{◌+◌, ◌≤◌, length, arith}
use Rattle.vt_cells.specs.Cell.{blank, default_blank}
use Rattle.vt_rows.proofs.Edits.{IsPaired-erased, All-erased}
use Rattle.vt_rows.proofs.Steps.{HasRoom-left_blanked, narrow_steps, read-repaired}
use Rattle.vt_rows.proofs.cells.lift.Goals as goal

pub blank_right-requires-clause-room : goal.blank_right-requires-clause-room
blank_right-requires-clause-room c =
    rw c.blank_left.ensures
    (HasRoom-left_blanked c.args.column c.args.column c.args.cells.now c.requires.paired c.requires.inside)

pub returns-clause-lifted : goal.returns-clause-lifted
returns-clause-lifted c =
    rw (c.replace.ensures.value, c.blank_right.ensures, c.blank_left.ensures)
    (read-repaired c.args.column _ _ c.args.cells.now c.requires.paired c.requires.inside)

pub returns-clause-value : goal.returns-clause-value
returns-clause-value c =
    rw (c.replace.ensures.after, c.blank.ensures, c.blank_right.ensures, c.blank_left.ensures, c.new.ensures)
    (narrow_steps c.args.column default_blank (blank c.args.attrs) c.args.cells.now c.requires.paired c.requires.inside)

pub returns-clause-paired : goal.returns-clause-paired
returns-clause-paired c =
    let h : c.args.column + 1 ≤ length c.args.cells.now = omega arith in
    rw (returns-clause-value c) (IsPaired-erased c.args.column 1 c.args.attrs c.args.cells.now h c.requires.paired)

pub returns-clause-sound : goal.returns-clause-sound
returns-clause-sound c =
    λ all. rw (returns-clause-value c) (All-erased c.args.column 1 c.args.attrs c.args.cells.now all)
