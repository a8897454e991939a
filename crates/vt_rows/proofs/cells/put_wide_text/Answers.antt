use Rattle.std.proofs.Common.{◌≡◌, ℕ, ◌+◌, ◌-◌, ◌*◌, ◌<◌, length, ◌∙◌, ap, sym, arith}
use Rattle.vt_cells.specs.Cell.{blank}
use Rattle.vt_rows.specs.Cells.{put_cells}
use Rattle.vt_rows.specs.Texts.{wide_glyphs_of}
use Rattle.vt_rows.proofs.Steps.{HasRoom-left_blanked, erase_steps}
use Rattle.vt_rows.proofs.Texts.{length-wide_glyphs_of, IsPaired-put_wide_text, All-put_wide_text}
use Rattle.vt_rows.proofs.cells.put_wide_text.Goals as goal

pub blank_right-requires-clause-room : goal.blank_right-requires-clause-room
blank_right-requires-clause-room c =
    let h : c.args.column < length c.args.cells.now = omega arith in
    rw c.blank_left.ensures (HasRoom-left_blanked c.args.column
    (c.args.column + 2 * length c.args.text.now - 1) c.args.cells.now c.requires.paired h)

pub returns-clause-value : goal.returns-clause-value
returns-clause-value c =
    let start = c.args.column in
    let n = 2 * length c.args.text.now in
    let new = wide_glyphs_of c.args.attrs c.args.text.now in
    let size : start + n - start ≡ n = omega arith in
    let l : length new ≡ start + n - start = length-wide_glyphs_of c.args.attrs c.args.text.now ∙ sym size in
    rw (c.write_wide.ensures, c.blank_right.ensures, c.blank_left.ensures)
    (erase_steps start (start + n) (blank c.args.attrs) new c.args.cells.now
    c.requires.paired l (omega arith) c.requires.inside)
    ∙ ap (λ (m : ℕ). put_cells start (blank c.args.attrs) new m c.args.cells.now) size

pub returns-clause-paired : goal.returns-clause-paired
returns-clause-paired c =
    rw (returns-clause-value c)
    (IsPaired-put_wide_text c.args.column c.args.text.now c.args.attrs c.args.cells.now c.requires.inside c.requires.paired)

pub returns-clause-sound : goal.returns-clause-sound
returns-clause-sound c =
    λ all. rw (returns-clause-value c)
    (All-put_wide_text c.args.column c.args.text.now c.args.attrs c.args.cells.now c.requires.wide all)
