use Rattle.std.proofs.Common.{◌≡◌, ℕ, ◌+◌, ◌-◌, length, take, drop, ap, ◌∙◌, arith}
use Rattle.std.proofs.lemmas.List.{length-take, length-drop}
use borrow.Rule.Slice.PartMut.{put_mid}
use Rattle.vt_cells.specs.Attrs.{default_attrs, Attrs}
use Rattle.vt_rows.specs.Cells.{blanks}
use Rattle.vt_rows.specs.Internals.{end_blanked}
use Rattle.vt_rows.proofs.Moves.{IsPaired-inserted, All-inserted}
use Rattle.vt_rows.proofs.ShiftSteps.{insert_code}
use Rattle.vt_rows.proofs.shifts.insert.Goals as goal

pub returns-clause-value : goal.returns-clause-value
returns-clause-value c =
    let cells = c.args.cells.now in
    let start = c.insert_column-start.result in
    let m = c.min-count.result in
    let slid = c.open_gap.new.cells in
    let w : start + m - start ≡ m = omega arith in
    let size : length (take (start + m - start) (drop start slid)) ≡ m =
    omega (arith, length-take (start + m - start) (drop start slid), length-drop start slid, c.open_gap.ensures.len) in
    let new : c.clear.new.cells ≡ blanks default_attrs m =
    c.clear.ensures
    ∙ (ap (λ (a : Attrs). blanks a (length (take (start + m - start) (drop start slid)))) c.new.ensures
    ∙ ap (λ (n : ℕ). blanks default_attrs n) size) in
    c.blank_end.ensures ∙ (ap (λ (n : ℕ). end_blanked (put_mid start n slid c.clear.new.cells)) w
    ∙ insert_code c.args.column c.args.count start m cells slid c.clear.new.cells c.requires.paired
    c.insert_column-start.ensures.value c.insert_column-start.ensures.inside c.min-count.ensures c.open_gap.ensures.len
    c.open_gap.ensures.before c.open_gap.ensures.after new)

pub returns-clause-paired : goal.returns-clause-paired
returns-clause-paired c =
    rw (returns-clause-value c) (IsPaired-inserted c.args.column c.args.count c.args.cells.now c.requires.paired)

pub returns-clause-sound : goal.returns-clause-sound
returns-clause-sound c =
    λ all. rw (returns-clause-value c) (All-inserted c.args.column c.args.count c.args.cells.now all)
