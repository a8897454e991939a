use Rattle.std.proofs.Common.{◌≢◌, ◌∙◌, length, refl, sym, ap}
use Rattle.std.proofs.lemmas.Bool.{false≢true}
use Rattle.vt_grid.specs.Internals.{page_of}
use Rattle.vt_grid.specs.Page.{Page}
use Rattle.vt_grid.specs.Resize.{page_resized, scrollback_resized}
use Rattle.vt_grid.proofs.Widths.{columns_above, columns_page, columns_sized}
use Rattle.vt_grid.proofs.grid.Grid.set_own_cols.Goals as goal

pub invariant_of-self-2 : goal.invariant_of-self-2
invariant_of-self-2 c =
    let s = c.self.inside in
    let i = c.self.invariant in
    let cols = c.args.cols in
    let above = c.args.above.now in
    let page = page_of s.page_rows s.pos s.saved_pos s.scroll_top s.scroll_bottom s.origin_mode s.saved_origin_mode in
    let view = c.self.view_is in
    let other : cols ≢ page.width = λ e. c.requires.different (e ∙ ap (λ (p : Page). p.width) view) in
    let steps = columns_page s.size.rows cols above c.leave_view.new.self page s.page_rows c.set_width.new.self
    c.resized-self-inside.result c.resized-self-inside-2.result i.height other i.sound c.leave_view.ensures.value refl refl
    (c.if-not-set_width.ensures.done refl) c.resized-self-inside.ensures.row c.resized-self-inside.ensures.col
    c.resized-self-inside-2.ensures.row c.resized-self-inside-2.ensures.col in
    columns_sized s.size.rows cols above page _ steps i.height c.requires.nonempty c.ranges.cols.fits i.sound
    c.leave_view.ensures.sound

pub returns : goal.returns
returns c =
    let s = c.self.inside in
    let i = c.self.invariant in
    let cols = c.args.cols in
    let above = c.args.above.now in
    let page = page_of s.page_rows s.pos s.saved_pos s.scroll_top s.scroll_bottom s.origin_mode s.saved_origin_mode in
    let view = c.self.view_is in
    let other : cols ≢ page.width = λ e. c.requires.different (e ∙ ap (λ (p : Page). p.width) view) in
    let steps = columns_page s.size.rows cols above c.leave_view.new.self page s.page_rows c.set_width.new.self
    c.resized-self-inside.result c.resized-self-inside-2.result i.height other i.sound c.leave_view.ensures.value refl refl
    (c.if-not-set_width.ensures.done refl) c.resized-self-inside.ensures.row c.resized-self-inside.ensures.col
    c.resized-self-inside-2.ensures.row c.resized-self-inside-2.ensures.col in
    record {
      page = λ _. steps ∙ (λ z. page_resized (length (view z).rows) cols above (view z));
      above =
          λ _. columns_above above c.leave_view.new.self page c.leave_view.ensures.value
          ∙ ap (λ (p : Page). scrollback_resized (length p.rows) p above) view;
      undone = λ e. absurd (false≢true (sym e));
    }
