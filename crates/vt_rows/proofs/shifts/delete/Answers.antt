use Rattle.std.proofs.Common.{◌≡◌, ℕ, ◌+◌, ◌-◌, ◌<◌, ◌≤◌, length, take, drop, sym, ap, ◌∙◌, arith}
use Rattle.std.proofs.lemmas.List.{length-take, length-drop}
use borrow.Rule.Slice.PartMut.{put_mid}
use Rattle.vt_cells.specs.Attrs.{default_attrs, Attrs}
use Rattle.vt_cells.specs.Cell.{default_blank, blank}
use Rattle.vt_rows.specs.Cells.{blanks, at}
use Rattle.vt_rows.specs.Internals.{left_blanked, right_replaced}
use Rattle.vt_rows.proofs.Moves.{IsPaired-deleted, All-deleted}
use Rattle.vt_rows.proofs.Steps.{HasRoom-left_blanked, length-left_blanked, length-right_replaced}
use Rattle.vt_rows.proofs.ShiftSteps.{deleted-none, delete_code}
use Rattle.vt_rows.proofs.shifts.delete.Goals as goal

pub returns-then-count-eq0-clause-value : goal.returns-then-count-eq0-clause-value
returns-then-count-eq0-clause-value c =
    deleted-none c.args.column c.args.count c.args.cells.now c.requires.paired
    c.requires.inside (sym c.min-count.ensures ∙ c.if-count-eq0.true)

pub blank_right-requires-clause-room : goal.blank_right-requires-clause-room
blank_right-requires-clause-room c =
    let h : c.args.column < length c.args.cells.now = omega arith in
    rw c.blank_left.ensures
    (HasRoom-left_blanked c.args.column (c.args.column + c.min-count.result - 1) c.args.cells.now c.requires.paired h)

pub returns-clause-value : goal.returns-clause-value
returns-clause-value c =
    let cells = c.args.cells.now in
    let m = c.min-count.result in
    let slid = c.close_gap.new.cells in
    let len = length cells in
    let a = ap length c.blank_left.ensures ∙ length-left_blanked c.args.column cells in
    let b = ap length c.blank_right.ensures
    ∙ length-right_replaced (c.args.column + m - 1) (blank c.new.result) c.blank_left.new.cells in
    let l : length slid ≡ len = omega (arith, c.close_gap.ensures.len) in
    let w : len - (len - m) ≡ m = omega arith in
    let size : length (take (len - (len - m)) (drop (len - m) slid)) ≡ m =
    omega (arith, length-take (len - (len - m)) (drop (len - m) slid), length-drop (len - m) slid) in
    let new : c.clear.new.cells ≡ blanks default_attrs m =
    c.clear.ensures
    ∙ (ap (λ (x : Attrs). blanks x (length (take (len - (len - m)) (drop (len - m) slid)))) c.new-2.ensures
    ∙ ap (λ (n : ℕ). blanks default_attrs n) size) in
    let before : (j : ℕ) → j < c.args.column →
    at slid j ≡ at (right_replaced (c.args.column + m - 1) default_blank (left_blanked c.args.column cells)) j =
    λ j h. rw (c.blank_right.ensures, c.blank_left.ensures, c.new.ensures)
    at (c.close_gap.ensures.before j h) in
    let behind : (j : ℕ) → c.args.column ≤ j → j < len - m →
    at slid j
    ≡ at (right_replaced (c.args.column + m - 1) default_blank (left_blanked c.args.column cells))
    (c.args.column + m + (j - c.args.column)) =
    λ j h i. rw (c.blank_right.ensures, c.blank_left.ensures, c.new.ensures)
    at (c.close_gap.ensures.after j h (omega (arith, i, a, b))) in
    ap (λ (n : ℕ). put_mid (len - m) n slid c.clear.new.cells) w
    ∙ delete_code c.args.column c.args.count m cells slid c.clear.new.cells
    c.requires.paired c.requires.inside c.min-count.ensures (omega arith) l before behind new

pub returns-clause-paired : goal.returns-clause-paired
returns-clause-paired c =
    rw (returns-clause-value c) (IsPaired-deleted c.args.column c.args.count c.args.cells.now c.requires.paired)

pub returns-clause-sound : goal.returns-clause-sound
returns-clause-sound c =
    λ all. rw (returns-clause-value c) (All-deleted c.args.column c.args.count c.args.cells.now all)
