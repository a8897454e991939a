use Rattle.std.proofs.Common.{length, subst, sym, ap, ◌∙◌, ◌≡◌, get_or, arith}
use Rattle.vt_cells.specs.Attrs.{default_attrs}
use Rattle.vt_rows.specs.Row.{RowValue, IsRow, blank_row, trimmed_row}
use Rattle.vt_grid.proofs.ScrollbackRows.{newest_turned, turned_over}
use Rattle.vt_grid.proofs.row_lists.recycle_oldest.Goals as goal

pub leave_for-requires : goal.leave_for-requires
leave_for-requires g c =
    let rows = c.args.rows.now.items in
    let d = c.index_mut.result.now in
    let turned = newest_turned rows c.rotate_left.new.self.items c.len-newest.result d c.requires.nonempty
    c.rotate_left.ensures.items (omega (arith, c.len-newest.ensures)) in
    subst (λ (row : RowValue). IsRow (length row.cells) row) (sym (c.index_mut.ensures.value ∙ turned))
    (c.requires.sound 0 d c.requires.nonempty)

pub returns-clause-rows : goal.returns-clause-rows
returns-clause-rows g c =
    let page = c.args.page.now in
    let d = blank_row default_attrs page.width in
    let made : c.leave_for.new.self ≡ trimmed_row (get_or page.rows 0 d) = c.in_default.ensures.row
    ∙ (λ z. record {
      cells = c.used_cells-cells.ensures z;
      wrapped = (c.wrapped.ensures ∙ ap (λ (r : RowValue). r.wrapped) c.row-row.ensures) z;
    }) in
    turned_over c.args.rows.now.items c.rotate_left.new.self.items page.rows c.len-newest.result c.leave_for.new.self d
    c.requires.nonempty (omega (arith, c.requires.page.inside)) c.rotate_left.ensures.items
    (omega (arith, c.len-newest.ensures)) made
