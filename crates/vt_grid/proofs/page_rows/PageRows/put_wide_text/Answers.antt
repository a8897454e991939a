use Rattle.std.proofs.Common.{rules, ◌+◌, ◌*◌, ◌≡◌, length, arith}
use Rattle.vt_rows.specs.Texts.{put_wide_text}
use Rattle.vt_grid.specs.Flat.{used_columns}
use Rattle.vt_grid.specs.PageRows.{page_row, with_row_cells}
use Rattle.vt_grid.proofs.Bounds.{put_wide_text_used, row_replaced}
use Rattle.vt_grid.proofs.page_rows.PageRows.put_wide_text.Goals as goal

pub note_used-requires-clause-blank : goal.note_used-requires-clause-blank
note_used-requires-clause-blank c =
    let own = c.args.self.now in
    let old = (page_row own c.args.row).cells in
    let new = put_wide_text c.args.col c.args.text.now c.args.attrs old in
    let e : c.edit_row.new.self ≡ with_row_cells c.args.row new own = search rules in
    let used = used_columns own.width c.groups-groups.result in
    row_replaced c.args.row c.groups-groups.result (c.from.result + 2 * length c.args.text.now) own c.edit_row.new.self new e c.requires.inside
    (λ k h. put_wide_text_used used c.args.col c.args.text.now c.args.attrs old c.requires.columns
    c.groups-groups.ensures k (omega (arith, h, c.from.ensures)))
