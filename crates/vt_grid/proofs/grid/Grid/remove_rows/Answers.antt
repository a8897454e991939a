use Rattle.std.proofs.Common.{◌≡◌, ◌≤◌, ◌∙◌, ℕ, length, take, refl, ap, arith, rules}
use Rattle.vt_grid.specs.Internals.{page_of}
use Rattle.vt_grid.specs.Page.{Page}
use Rattle.vt_grid.specs.Resize.{leaving_count, out_of_view, page_resized, returning_count, scrollback_resized}
use Rattle.vt_grid.specs.Scrollback.{no_scrollback, scrollback_after_push}
use Rattle.vt_grid.proofs.Heights.{none_sound, resized_sound, taken_none}
use Rattle.vt_grid.proofs.Resizing.{above_by_steps, page_by_steps}
use Rattle.vt_grid.proofs.grid.Grid.remove_rows.Goals as goal

pub invariant_of-self : goal.invariant_of-self
invariant_of-self g c =
    let s = c.self.inside in
    let i = c.self.invariant in
    let h = c.args.rows in
    let page = page_of s.page_rows s.pos s.saved_pos s.scroll_top s.scroll_bottom s.origin_mode s.saved_origin_mode in
    let fewer : h ≤ length page.rows =
    omega (arith, c.requires.fewer, ap (λ (p : Page). length p.rows) c.self.view_is) in
    let down : c.saturating_sub-down.result ≡ leaving_count h page = c.saturating_sub-down.ensures ∙ omega (arith, i.height) in
    -- No row comes back, so the same page results from any scrollback.
    let none = no_scrollback 0 in
    let mid = scrollback_after_push s.size.rows s.size.cols (take c.saturating_sub-down.result page.rows) (out_of_view none) in
    let steps = page_by_steps h page.width s.size.rows s.size.cols c.saturating_sub-down.result 0 none
    mid page s.page_rows c.keep_rows.new.self c.resized-self-inside.result
    c.resized-self-inside-2.result h s.size.cols refl i.width down (omega (arith, fewer)) refl refl refl
    (c.keep_rows.ensures.rows mid.rows) c.keep_rows.ensures.width
    c.resized-self-inside.ensures.row c.resized-self-inside.ensures.col
    c.resized-self-inside-2.ensures.row c.resized-self-inside-2.ensures.col in
    resized_sound h h s.size.cols none page _ steps refl i.width c.requires.nonempty c.ranges.rows.fits i.sound none_sound

pub returns : goal.returns
returns g c =
    let s = c.self.inside in
    let i = c.self.invariant in
    let h = c.args.rows in
    let above = c.args.above.now in
    let page = page_of s.page_rows s.pos s.saved_pos s.scroll_top s.scroll_bottom s.origin_mode s.saved_origin_mode in
    let fewer : h ≤ length page.rows =
    omega (arith, c.requires.fewer, ap (λ (p : Page). length p.rows) c.self.view_is) in
    let down : c.saturating_sub-down.result ≡ leaving_count h page = c.saturating_sub-down.ensures ∙ omega (arith, i.height) in
    let up : 0 ≡ returning_count h above page = omega (arith, fewer) in
    let sent = c.in_ok-push_out_of_view.ensures.pushed.sent.0
    ∙ ap (λ (n : ℕ). scrollback_after_push s.size.rows s.size.cols (take n page.rows) (out_of_view above)) c.from.ensures in
    let steps = page_by_steps h page.width s.size.rows s.size.cols c.saturating_sub-down.result 0 above
    c.push_out_of_view.new.self page s.page_rows c.keep_rows.new.self c.resized-self-inside.result
    c.resized-self-inside-2.result h s.size.cols refl i.width down up sent refl refl
    (c.keep_rows.ensures.rows c.push_out_of_view.new.self.rows) c.keep_rows.ensures.width
    c.resized-self-inside.ensures.row c.resized-self-inside.ensures.col
    c.resized-self-inside-2.ensures.row c.resized-self-inside-2.ensures.col in
    record {
      page = steps ∙ (λ z. page_resized h (c.self.view_is z).width above (c.self.view_is z));
      above =
          above_by_steps h s.size.rows s.size.cols c.saturating_sub-down.result 0 above
          c.push_out_of_view.new.self c.push_out_of_view.new.self page i.height i.width down up sent
          (taken_none c.push_out_of_view.new.self)
          ∙ ap (λ (p : Page). scrollback_resized h p above) c.self.view_is;
      reported = search rules;
      err = tt;
      grows = search rules;
      memory = tt;
    }
