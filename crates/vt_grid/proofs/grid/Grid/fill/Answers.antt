use Rattle.std.proofs.Common.{◌≡◌, ◌<◌, ◌^◌, ◌∙◌, ℕ, length, take, refl, sym, ap, subst, arith, rules}
use Rattle.vt_grid.specs.Internals.{IsSized, page_of}
use Rattle.vt_grid.specs.Page.{Page}
use Rattle.vt_grid.specs.Resize.{out_of_view, leaving_count, returning_count, page_resized, scrollback_resized}
use Rattle.vt_grid.specs.Scrollback.{Scrollback, scrollback_after_push}
use Rattle.vt_grid.specs.PageRows.{PageRowsValue}
use Rattle.vt_grid.proofs.Resizing.{offset-pushed, page_by_steps, above_by_steps, page_page_resized, sized_resized}
use Rattle.vt_grid.proofs.grid.Grid.fill.Goals as goal

pub refit-requires-clause-hidden : goal.refit-requires-clause-hidden
refit-requires-clause-hidden g c =
    let s = c.self.inside in
    ap (λ (above : Scrollback). above.offset) c.in_ok-push_out_of_view.ensures.pushed.sent.0
    ∙ offset-pushed s.size.rows s.size.cols _ c.args.above.now

pub invariant_of-self : goal.invariant_of-self
invariant_of-self g c =
    let s = c.self.inside in
    let i = c.self.invariant in
    let h = length c.args.fresh.rows in
    let w = c.args.fresh.width in
    let above = c.args.above.now in
    let page = page_of s.page_rows s.pos s.saved_pos s.scroll_top s.scroll_bottom s.origin_mode s.saved_origin_mode in
    let rows : c.size-size.result.rows ≡ h = c.size-size.ensures.rows in
    let down : c.saturating_sub-down.result ≡ leaving_count h page =
    c.saturating_sub-down.ensures ∙ omega (arith, c.saturating_sub.ensures, rows, i.height) in
    let up : c.at_most-up.result ≡ returning_count h above page =
    c.at_most-up.ensures ∙ omega (arith, c.saturating_sub-2.ensures, rows, i.height, c.theoretical_len.ensures.value) in
    let sent = c.in_ok-push_out_of_view.ensures.pushed.sent.0
    ∙ ap (λ (n : ℕ). scrollback_after_push s.size.rows s.size.cols (take n page.rows) (out_of_view above)) c.from.ensures in
    let steps = page_by_steps h w s.size.rows s.size.cols c.saturating_sub-down.result
    c.at_most-up.result above c.push_out_of_view.new.self page s.page_rows
    c.refit.new.self c.resized-self-inside.result c.resized-self-inside-2.result
    c.size-size.result.rows c.size-size.result.cols rows c.size-size.ensures.cols
    down up sent refl refl c.refit.ensures.rows c.refit.ensures.width
    c.resized-self-inside.ensures.row c.resized-self-inside.ensures.col
    c.resized-self-inside-2.ensures.row c.resized-self-inside-2.ensures.col in
    let width : w < 2 ^ 16 = omega (arith, ap (λ (page_rows : PageRowsValue). page_rows.width) c.fresh.view_is) in
    subst (IsSized c.size-size.result.rows c.size-size.result.cols) (sym steps)
    (sized_resized c.size-size.result.rows c.size-size.result.cols h w above page rows c.size-size.ensures.cols
    (page_page_resized h w above page i.sound c.theoretical_len.ensures.sound
    c.requires.rows c.requires.height c.requires.cols width))

pub returns : goal.returns
returns g c =
    let s = c.self.inside in
    let i = c.self.invariant in
    let h = length c.args.fresh.rows in
    let w = c.args.fresh.width in
    let above = c.args.above.now in
    let page = page_of s.page_rows s.pos s.saved_pos s.scroll_top s.scroll_bottom s.origin_mode s.saved_origin_mode in
    let rows : c.size-size.result.rows ≡ h = c.size-size.ensures.rows in
    let down : c.saturating_sub-down.result ≡ leaving_count h page =
    c.saturating_sub-down.ensures ∙ omega (arith, c.saturating_sub.ensures, rows, i.height) in
    let up : c.at_most-up.result ≡ returning_count h above page =
    c.at_most-up.ensures ∙ omega (arith, c.saturating_sub-2.ensures, rows, i.height, c.theoretical_len.ensures.value) in
    let sent = c.in_ok-push_out_of_view.ensures.pushed.sent.0
    ∙ ap (λ (n : ℕ). scrollback_after_push s.size.rows s.size.cols (take n page.rows) (out_of_view above)) c.from.ensures in
    let steps = page_by_steps h w s.size.rows s.size.cols c.saturating_sub-down.result
    c.at_most-up.result above c.push_out_of_view.new.self page s.page_rows
    c.refit.new.self c.resized-self-inside.result c.resized-self-inside-2.result
    c.size-size.result.rows c.size-size.result.cols rows c.size-size.ensures.cols
    down up sent refl refl c.refit.ensures.rows c.refit.ensures.width
    c.resized-self-inside.ensures.row c.resized-self-inside.ensures.col
    c.resized-self-inside-2.ensures.row c.resized-self-inside-2.ensures.col in
    record {
      page = steps ∙ ap (page_resized h w above) c.self.view_is;
      above =
          above_by_steps h s.size.rows s.size.cols c.saturating_sub-down.result c.at_most-up.result above
          c.push_out_of_view.new.self c.refit.new.above page i.height i.width down up sent c.refit.ensures.above
          ∙ ap (λ (p : Page). scrollback_resized h p above) c.self.view_is;
      reported = search rules;
      err = tt;
      grows = search rules;
      memory = tt;
    }
