use Rattle.std.proofs.Common.{false}
use Rattle.vt_cells.proofs.Glyphs.{IsGlyphText-first}
use Rattle.vt_rows.proofs.Edits.{IsPaired-put_narrow, All-put_narrow}
use Rattle.vt_rows.proofs.Steps.{HasRoom-left_blanked, narrow_steps}
use Rattle.vt_rows.proofs.cells.put_narrow.Goals as goal

pub space_right-requires-clause-room : goal.space_right-requires-clause-room
space_right-requires-clause-room c =
    rw c.blank_left.ensures
    (HasRoom-left_blanked c.args.column c.args.column c.args.cells.now c.requires.paired c.requires.inside)

pub returns-clause-value : goal.returns-clause-value
returns-clause-value c =
    rw (c.space_right.ensures, c.blank_left.ensures, c.set_glyph.ensures)
    (narrow_steps c.args.column _ _ c.args.cells.now c.requires.paired c.requires.inside)

pub returns-clause-paired : goal.returns-clause-paired
returns-clause-paired c =
    rw (returns-clause-value c)
    (IsPaired-put_narrow c.args.column _ c.args.attrs c.args.cells.now c.requires.inside c.requires.paired)

pub returns-clause-sound : goal.returns-clause-sound
returns-clause-sound c =
    λ all. rw (returns-clause-value c)
    (All-put_narrow c.args.column _ c.args.attrs c.args.cells.now
    (IsGlyphText-first c.args.c false c.ranges.c.0 c.requires.reported c.requires.columns) all)
