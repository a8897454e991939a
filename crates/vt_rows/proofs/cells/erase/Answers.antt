use Rattle.std.proofs.Common.{◌≡◌, ◌+◌, ◌-◌, ◌≤◌, ◌<◌, length, take, drop, ◌∙◌, ap, arith}
use Rattle.std.proofs.lemmas.List.{length-take, length-drop, length-replicate}
use Rattle.vt_cells.specs.Cell.{default_blank, blank}
use Rattle.vt_rows.specs.Cells.{blanks}
use Rattle.vt_rows.proofs.Edits.{IsPaired-erased, All-erased}
use Rattle.vt_rows.proofs.Steps.{HasRoom-left_blanked, erase_steps, length-left_blanked, length-right_replaced}
use Rattle.vt_rows.proofs.cells.erase.Goals as goal

pub blank_right-requires-clause-room : goal.blank_right-requires-clause-room
blank_right-requires-clause-room c =
    let h : c.args.start < length c.args.cells.now = omega arith in
    rw c.blank_left.ensures (HasRoom-left_blanked c.args.start (c.args.end - 1) c.args.cells.now c.requires.paired h)

pub returns-clause-value : goal.returns-clause-value
returns-clause-value c =
    let n = c.args.end - c.args.start in
    let xs = c.blank_right.new.cells in
    let a = ap length c.blank_left.ensures ∙ length-left_blanked c.args.start c.args.cells.now in
    let b = ap length c.blank_right.ensures
    ∙ length-right_replaced (c.args.end - 1) (blank c.new.result) c.blank_left.new.cells in
    let l : length (take n (drop c.args.start xs)) ≡ n =
    omega (arith, length-take n (drop c.args.start xs), length-drop c.args.start xs) in
    rw (c.clear.ensures, l, c.blank_right.ensures, c.blank_left.ensures, c.new.ensures)
    (erase_steps c.args.start c.args.end default_blank (blanks c.args.attrs n) c.args.cells.now
    c.requires.paired (length-replicate n (blank c.args.attrs)) c.requires.nonempty c.requires.inside)

pub returns-clause-paired : goal.returns-clause-paired
returns-clause-paired c =
    let h : c.args.start + (c.args.end - c.args.start) ≤ length c.args.cells.now = omega arith in
    rw (returns-clause-value c)
    (IsPaired-erased c.args.start (c.args.end - c.args.start) c.args.attrs c.args.cells.now h c.requires.paired)

pub returns-clause-sound : goal.returns-clause-sound
returns-clause-sound c =
    λ all. rw (returns-clause-value c)
    (All-erased c.args.start (c.args.end - c.args.start) c.args.attrs c.args.cells.now all)
