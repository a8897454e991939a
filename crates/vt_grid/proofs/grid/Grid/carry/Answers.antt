use Rattle.std.proofs.Common.{◌∙◌, ap, sym, subst, arith, rules}
use Rattle.vt_grid.specs.Page.{Page, IsPage, row_at}
use Rattle.vt_grid.proofs.Printing.{column_wrapped_page, width_wrapped_page, mark_place}
use Rattle.vt_grid.proofs.Carries.{carried_of, carried_is, put_back_parts}
use Rattle.vt_grid.proofs.grid.Grid.carry.Goals as goal

pub mark_col-col-requires : goal.mark_col-col-requires
mark_col-col-requires g c =
    let carried = carried_of c.args.mark c.args.self.now c.requires.carried in
    omega (arith, carried.columns, carried.pending)

pub put_back-requires-clause-inside : goal.put_back-requires-clause-inside
put_back-requires-clause-inside g c =
    let carried = carried_of c.args.mark c.args.self.now c.requires.carried in
    let row = ap (λ (q : Page). (row_at c.args.self.now q.row).wrapped) c.self.view_is in
    let parts = put_back_parts c.mark_col-col.result c.args.mark c.args.attrs c.args.self.now
    c.wrap.new.self c.lift-cell.result c.row_wrapped-is_wrapped.result c.mark_col-col.ensures.page carried
    c.mark_col-col.ensures.value (c.in-Err.ensures.err.0 ∙ c.lift-cell.ensures.value)
    c.lift-cell.ensures.lifted (c.row_wrapped-is_wrapped.ensures ∙ row) in
    parts.0

pub put_back-requires-clause-page : goal.put_back-requires-clause-page
put_back-requires-clause-page g c =
    let carried = carried_of c.args.mark c.args.self.now c.requires.carried in
    let row = ap (λ (q : Page). (row_at c.args.self.now q.row).wrapped) c.self.view_is in
    let parts = put_back_parts c.mark_col-col.result c.args.mark c.args.attrs c.args.self.now
    c.wrap.new.self c.lift-cell.result c.row_wrapped-is_wrapped.result c.mark_col-col.ensures.page carried
    c.mark_col-col.ensures.value (c.in-Err.ensures.err.0 ∙ c.lift-cell.ensures.value)
    c.lift-cell.ensures.lifted (c.row_wrapped-is_wrapped.ensures ∙ row) in
    subst IsPage (sym parts.1) c.mark_col-col.ensures.page

pub returns-in-Err : goal.returns-in-Err
returns-in-Err g c =
    let carried = carried_of c.args.mark c.args.self.now c.requires.carried in
    let row = ap (λ (q : Page). (row_at c.args.self.now q.row).wrapped) c.self.view_is in
    let parts = put_back_parts c.mark_col-col.result c.args.mark c.args.attrs c.args.self.now
    c.wrap.new.self c.lift-cell.result c.row_wrapped-is_wrapped.result c.mark_col-col.ensures.page carried
    c.mark_col-col.ensures.value (c.in-Err.ensures.err.0 ∙ c.lift-cell.ensures.value)
    c.lift-cell.ensures.lifted (c.row_wrapped-is_wrapped.ensures ∙ row) in
    record {
      page = search rules;
      sent = search rules;
      err = (c.put_back.ensures ∙ parts.1, c.in-Err.ensures.err.1);
      grows = search rules;
      memory = search rules;
    }

pub widened-requires-clause-selector : goal.widened-requires-clause-selector
widened-requires-clause-selector g c =
    let carried = carried_of c.args.mark c.args.self.now c.requires.carried in
    carried.selector

pub widened-requires-clause-room : goal.widened-requires-clause-room
widened-requires-clause-room g c =
    let carried = carried_of c.args.mark c.args.self.now c.requires.carried in
    rw (c.lift-cell.ensures.lifted, c.mark_col-col.ensures.value) carried.takes

pub widened-requires-clause-shown : goal.widened-requires-clause-shown
widened-requires-clause-shown g c =
    let carried = carried_of c.args.mark c.args.self.now c.requires.carried in
    let place =
    mark_place c.args.self.now c.mark_col-col.ensures.page (omega (arith, carried.columns, carried.pending)) in
    rw (c.lift-cell.ensures.lifted, c.mark_col-col.ensures.value) place.shown

pub put_wide_cell-requires-clause-room : goal.put_wide_cell-requires-clause-room
put_wide_cell-requires-clause-room g c =
    let carried = carried_of c.args.mark c.args.self.now c.requires.carried in
    let q = c.lift-cell.new.self in
    let column = column_wrapped_page q in
    let width = width_wrapped_page q ∙ ap (λ (p : Page). p.width) c.lift-cell.ensures.value in
    rw c.in_default.ensures.page (omega (arith, carried.columns))

pub returns : goal.returns
returns g c =
    let page = c.args.self.now in
    let here = carried_is c.args.mark c.args.attrs page c.requires.carried in
    record {
      page =
          c.put_wide_cell.ensures
          ∙ (rw (
            c.widened.ensures,
            c.in_default.ensures.page,
            c.lift-cell.ensures.value,
            c.lift-cell.ensures.lifted,
            c.mark_col-col.ensures.value,
          ) (sym here));
      sent = search rules;
      err = search rules;
      grows = search rules;
      memory = search rules;
    }
