use Rattle.std.proofs.Common.{length, sym, ap, subst, ◌∙◌, arith}
use Rattle.vt_rows.specs.Row.{RowValue, IsRow}
use Rattle.vt_grid.specs.Page.{row_or}
use Rattle.vt_redraw.specs.Picture.{Picture}
use Rattle.vt_redraw.proofs.Viewing.{row_after, row_in_view, row_sound, viewed_height}
use Rattle.vt_redraw.proofs.view.View.row.Goals as goal

pub row_moved-requires-clause-inside : goal.row_moved-requires-clause-inside
row_moved-requires-clause-inside c =
    let v = c.self.inside in
    let size = ap (λ (p : Picture). length p.rows) (sym c.self.view_is)
    ∙ viewed_height v.source v.above.now v.rows.now.rows v.cols v.pen v.hidden in
    let asked = c.requires in
    omega arith

pub returns-in-InView-clause-value : goal.returns-in-InView-clause-value
returns-in-InView-clause-value c =
    let v = c.self.inside in
    row_in_view v.source v.above.now v.rows.now.rows v.cols v.pen v.hidden c.args.row
    c.row_seen.result c.in-InView.is c.row_seen.ensures
    ∙ ap (λ (p : Picture). row_or p.width p.rows c.args.row) c.self.view_is

pub returns-in-InView-clause-sound : goal.returns-in-InView-clause-sound
returns-in-InView-clause-sound c =
    let v = c.self.inside in
    let size = ap (λ (p : Picture). length p.rows) (sym c.self.view_is)
    ∙ viewed_height v.source v.above.now v.rows.now.rows v.cols v.pen v.hidden in
    let asked = c.requires in
    subst (λ (z : RowValue). IsRow c.args.self.now.width z) (sym (returns-in-InView-clause-value c))
    (subst (λ (p : Picture). IsRow p.width (row_or p.width p.rows c.args.row)) c.self.view_is
    (row_sound v.source v.above.now v.rows.now.rows v.cols
    v.pen v.hidden c.args.row c.self.invariant.0 (omega arith)))

pub returns-in-InView-clause-nonempty : goal.returns-in-InView-clause-nonempty
returns-in-InView-clause-nonempty c =
    let size = (returns-in-InView-clause-sound c).columns in
    let width = ap (λ (p : Picture). p.width) c.self.view_is in
    let some = c.self.invariant.0.columns in
    omega arith

pub returns-in-Moved-clause-value : goal.returns-in-Moved-clause-value
returns-in-Moved-clause-value c =
    let v = c.self.inside in
    row_after v.source v.above.now v.rows.now.rows v.cols v.pen v.hidden c.in-Moved.band c.args.row
    c.row_moved.result c.in-Moved.is c.row_moved.ensures
    ∙ ap (λ (p : Picture). row_or p.width p.rows c.args.row) c.self.view_is

pub returns-in-Moved-clause-sound : goal.returns-in-Moved-clause-sound
returns-in-Moved-clause-sound c =
    let v = c.self.inside in
    let size = ap (λ (p : Picture). length p.rows) (sym c.self.view_is)
    ∙ viewed_height v.source v.above.now v.rows.now.rows v.cols v.pen v.hidden in
    let asked = c.requires in
    subst (λ (z : RowValue). IsRow c.args.self.now.width z) (sym (returns-in-Moved-clause-value c))
    (subst (λ (p : Picture). IsRow p.width (row_or p.width p.rows c.args.row)) c.self.view_is
    (row_sound v.source v.above.now v.rows.now.rows v.cols
    v.pen v.hidden c.args.row c.self.invariant.0 (omega arith)))

pub returns-in-Moved-clause-nonempty : goal.returns-in-Moved-clause-nonempty
returns-in-Moved-clause-nonempty c =
    let size = (returns-in-Moved-clause-sound c).columns in
    let width = ap (λ (p : Picture). p.width) c.self.view_is in
    let some = c.self.invariant.0.columns in
    omega arith
