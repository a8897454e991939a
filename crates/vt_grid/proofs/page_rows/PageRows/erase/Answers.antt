use Rattle.std.proofs.Common.{rules, ◌≡◌, ◌≤◌, ℕ, max, ap, subst}
use Rattle.std.proofs.Common.{◌-◌}
use Rattle.vt_rows.specs.Cells.{cells_after_erase}
use Rattle.vt_grid.specs.Flat.{used_columns}
use Rattle.vt_grid.specs.PageRows.{page_row, with_row_cells}
use Rattle.vt_grid.proofs.Bounds.{erased_used, row_replaced}
use Rattle.vt_grid.proofs.page_rows.PageRows.erase.Goals as goal

pub note_used-requires-clause-blank : goal.note_used-requires-clause-blank
note_used-requires-clause-blank c =
    let own = c.args.self.now in
    let old = (page_row own c.args.row).cells in
    let new = cells_after_erase c.args.from (c.args.to - c.args.from) c.args.attrs old in
    let e : c.edit_row.new.self ≡ with_row_cells c.args.row new own = search rules in
    let used = used_columns own.width c.groups-groups.result in
    row_replaced c.args.row c.groups-groups.result (c.erased_reach.result) own c.edit_row.new.self new e c.requires.inside
    (λ k h. erased_used used c.args.from c.args.to c.args.attrs old c.requires.nonempty c.requires.columns
    c.groups-groups.ensures k (subst (λ (n : ℕ). n ≤ k) (ap (max used) c.erased_reach.ensures) h))
