use Rattle.std.proofs.Common.{rules, ◌+◌, ◌≡◌, arith}
use Rattle.vt_rows.specs.Cells.{marked_at}
use Rattle.vt_grid.specs.Flat.{used_columns}
use Rattle.vt_grid.specs.PageRows.{page_row, with_row_cells}
use Rattle.vt_grid.proofs.Bounds.{marked_used, row_replaced}
use Rattle.vt_grid.proofs.page_rows.PageRows.append.Goals as goal

pub note_used-requires-clause-blank : goal.note_used-requires-clause-blank
note_used-requires-clause-blank c =
    let own = c.args.self.now in
    let old = (page_row own c.args.row).cells in
    let new = marked_at c.args.col c.args.mark old in
    let e : c.edit_row.new.self ≡ with_row_cells c.args.row new own = search rules in
    let used = used_columns own.width c.groups-groups.result in
    row_replaced c.args.row c.groups-groups.result (c.from.result + 1) own c.edit_row.new.self new e c.requires.inside
    (λ k h. marked_used used c.args.col c.args.mark old c.groups-groups.ensures k
    (omega (arith, h, c.from.ensures)))
