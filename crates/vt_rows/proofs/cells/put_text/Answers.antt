use Rattle.std.proofs.Common.{◌≡◌, ℕ, ◌+◌, ◌-◌, ◌<◌, ◌∷◌, [], false, length, ◌∙◌, ap, sym, arith}
use Rattle.vt_cells.specs.Cell.{glyph}
use Rattle.vt_rows.specs.Cells.{put_cells}
use Rattle.vt_rows.specs.Texts.{glyphs_of}
use Rattle.vt_rows.proofs.Steps.{HasRoom-left_blanked, erase_steps}
use Rattle.vt_rows.proofs.Texts.{length-glyphs_of, IsPaired-put_text, All-put_text, narrow_printable}
use Rattle.vt_rows.proofs.cells.put_text.Goals as goal

pub space_right-requires-clause-room : goal.space_right-requires-clause-room
space_right-requires-clause-room c =
    let h : c.args.column < length c.args.cells.now = omega arith in
    rw c.blank_left.ensures (HasRoom-left_blanked c.args.column
    (c.args.column + length c.args.text.now - 1) c.args.cells.now c.requires.paired h)

pub returns-clause-value : goal.returns-clause-value
returns-clause-value c =
    let start = c.args.column in
    let n = length c.args.text.now in
    let space = glyph (0x20 ∷ []) false c.args.attrs in
    let new = glyphs_of c.args.attrs c.args.text.now in
    let size : start + n - start ≡ n = omega arith in
    let l : length new ≡ start + n - start = length-glyphs_of c.args.attrs c.args.text.now ∙ sym size in
    rw (c.write_text.ensures, c.space_right.ensures, c.blank_left.ensures)
    (erase_steps start (start + n) space new c.args.cells.now c.requires.paired l (omega arith) c.requires.inside)
    ∙ ap (λ (m : ℕ). put_cells start space new m c.args.cells.now) size

pub returns-clause-paired : goal.returns-clause-paired
returns-clause-paired c =
    rw (returns-clause-value c)
    (IsPaired-put_text c.args.column c.args.text.now c.args.attrs c.args.cells.now c.requires.inside c.requires.paired)

pub returns-clause-sound : goal.returns-clause-sound
returns-clause-sound c =
    λ all. rw (returns-clause-value c)
    (All-put_text c.args.column c.args.text.now c.args.attrs c.args.cells.now
    (narrow_printable c.args.text.now c.requires.printable) all)
