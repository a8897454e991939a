use Rattle.std.proofs.Common.{◌≡◌, ◌≤◌, ◌∙◌, length, refl, ap, arith}
use Rattle.vt_grid.specs.Internals.{page_of}
use Rattle.vt_grid.specs.Page.{Page}
use Rattle.vt_grid.specs.Resize.{page_resized, returning_count, scrollback_resized}
use Rattle.vt_grid.proofs.Heights.{added_sound, grown_above, grown_page, resized_sound}
use Rattle.vt_grid.proofs.grid.Grid.add_own_rows.Goals as goal

pub bring_back-requires-clause-sound : goal.bring_back-requires-clause-sound
bring_back-requires-clause-sound c =
    added_sound c.args.rows c.self.inside.page_rows c.append_rows.new.self c.in_ok-append_rows.ensures.ok
    c.self.invariant.sound.rows

pub invariant_of-self-2 : goal.invariant_of-self-2
invariant_of-self-2 c =
    let s = c.self.inside in
    let i = c.self.invariant in
    let h = c.args.rows in
    let above = c.args.above.now in
    let page = page_of s.page_rows s.pos s.saved_pos s.scroll_top s.scroll_bottom s.origin_mode s.saved_origin_mode in
    let more : length page.rows ≤ h = omega (arith, c.requires, ap (λ (p : Page). length p.rows) c.self.view_is) in
    let up : c.at_most-up.result ≡ returning_count h above page =
    c.at_most-up.ensures ∙ omega (arith, i.height, c.theoretical_len.ensures.value) in
    let steps = grown_page h h s.size.cols c.at_most-up.result above c.leave_view.new.self page s.page_rows c.append_rows.new.self
    c.bring_back.new.self c.resized-self-inside.result c.resized-self-inside-2.result more refl i.width up c.leave_view.ensures.value
    refl refl c.in_ok-append_rows.ensures.ok c.bring_back.ensures.rows c.bring_back.ensures.width
    c.resized-self-inside.ensures.row c.resized-self-inside.ensures.col
    c.resized-self-inside-2.ensures.row c.resized-self-inside-2.ensures.col in
    resized_sound h h s.size.cols above page _ steps refl i.width (omega (arith, more, i.sound.cursor_row))
    c.ranges.rows.fits i.sound c.theoretical_len.ensures.sound

pub returns : goal.returns
returns c =
    let s = c.self.inside in
    let i = c.self.invariant in
    let h = c.args.rows in
    let above = c.args.above.now in
    let page = page_of s.page_rows s.pos s.saved_pos s.scroll_top s.scroll_bottom s.origin_mode s.saved_origin_mode in
    let more : length page.rows ≤ h = omega (arith, c.requires, ap (λ (p : Page). length p.rows) c.self.view_is) in
    let up : c.at_most-up.result ≡ returning_count h above page =
    c.at_most-up.ensures ∙ omega (arith, i.height, c.theoretical_len.ensures.value) in
    let steps = grown_page h h s.size.cols c.at_most-up.result above c.leave_view.new.self page s.page_rows c.append_rows.new.self
    c.bring_back.new.self c.resized-self-inside.result c.resized-self-inside-2.result more refl i.width up c.leave_view.ensures.value
    refl refl c.in_ok-append_rows.ensures.ok c.bring_back.ensures.rows c.bring_back.ensures.width
    c.resized-self-inside.ensures.row c.resized-self-inside.ensures.col
    c.resized-self-inside-2.ensures.row c.resized-self-inside-2.ensures.col in
    record {
      page = steps ∙ (λ z. page_resized h (c.self.view_is z).width above (c.self.view_is z));
      above =
          grown_above h c.at_most-up.result above c.leave_view.new.self c.bring_back.new.above page more up c.leave_view.ensures.value
          c.bring_back.ensures.above
          ∙ ap (λ (p : Page). scrollback_resized h p above) c.self.view_is;
      err = tt;
      memory = tt;
    }
