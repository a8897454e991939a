use Rattle.std.proofs.Common.{ap, arith, false, refl, sym, ◌∙◌}
use Rattle.vt_cells.specs.Attrs.{default_attrs}
use Rattle.vt_rows.specs.Cells.{cells_after_resize}
use Rattle.vt_rows.specs.Row.{RowValue, blank_row}
use Rattle.vt_grid.specs.Page.{row_or}
use Rattle.vt_grid.specs.Scrollback.{visible}
use Rattle.vt_redraw.specs.Internals.{row_seen}
use Rattle.vt_redraw.specs.Picture.{Picture}
use Rattle.vt_redraw.proofs.Viewing.{row_in_view, view_row_sound}
use Rattle.vt_redraw.proofs.view.View.uncut_cells.Goals as goal

pub returns-in_default : goal.returns-in_default
returns-in_default c =
    let v = c.self.inside in
    let width = ap (λ (p : Picture). p.width) c.self.view_is in
    let some = c.self.invariant.0.columns in
    record {
      cells = tt;
      paired = tt;
      sound = view_row_sound v.source v.above.now v.rows.now.rows v.cols v.pen v.hidden c.args.row c.args.self.now
          c.self.view_is c.self.invariant.0 c.requires;
      nonempty = omega arith;
    }

pub returns-in_err-found-clause-sound : goal.returns-in_err-found-clause-sound
returns-in_err-found-clause-sound c =
    let v = c.self.inside in
    view_row_sound v.source v.above.now v.rows.now.rows v.cols v.pen v.hidden c.args.row c.args.self.now
    c.self.view_is c.self.invariant.0 c.requires

pub returns-clause-cells : goal.returns-clause-cells
returns-clause-cells c =
    let v = c.self.inside in
    let seen = visible v.above.now v.rows.now.rows in
    let cells = c.cells_of.result.now in
    let found = row_in_view v.source v.above.now v.rows.now.rows v.cols v.pen v.hidden c.args.row
    (row_seen false v.cols seen c.args.row) c.in-InView.is refl in
    let is = c.cells_of.ensures
    ∙ ap (λ (row : RowValue). row.cells) (c.in_ok-found.ensures.value (blank_row default_attrs v.cols)) in
    sym (ap (λ (row : RowValue). row.cells) (found ∙ ap (λ (p : Picture). row_or p.width p.rows c.args.row) c.self.view_is))
    ∙ (ap (cells_after_resize v.cols) (sym is) ∙ ap (λ n. cells_after_resize n cells) (ap (λ (p : Picture). p.width) c.self.view_is))

pub returns-clause-sound : goal.returns-clause-sound
returns-clause-sound c =
    let v = c.self.inside in
    view_row_sound v.source v.above.now v.rows.now.rows v.cols v.pen v.hidden c.args.row c.args.self.now
    c.self.view_is c.self.invariant.0 c.requires
