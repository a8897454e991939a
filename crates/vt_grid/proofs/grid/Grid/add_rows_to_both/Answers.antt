use Rattle.std.proofs.Common.{◌≡◌, ◌≤◌, ◌∙◌, length, refl, ap, arith}
use Rattle.vt_grid.specs.Internals.{page_of}
use Rattle.vt_grid.specs.Page.{Page}
use Rattle.vt_grid.specs.Resize.{page_resized, returning_count, scrollback_resized}
use Rattle.vt_grid.proofs.Heights.{added_blank, added_sound, grown_above, grown_page, resized_sound}
use Rattle.vt_grid.proofs.grid.Grid.add_rows_to_both.Goals as goal

pub bring_back-requires-clause-sound : goal.bring_back-requires-clause-sound
bring_back-requires-clause-sound c =
    added_sound c.args.rows c.self.inside.page_rows c.append_rows_to_both.new.self
    c.in_ok-append_rows_to_both.ensures.own c.self.invariant.sound.rows

pub bring_back-requires-2-clause-sound : goal.bring_back-requires-2-clause-sound
bring_back-requires-2-clause-sound c =
    added_sound c.args.rows c.other.inside.page_rows c.append_rows_to_both.new.other
    c.in_ok-append_rows_to_both.ensures.other c.other.invariant.sound.rows

pub bring_back-requires-2-clause-blank : goal.bring_back-requires-2-clause-blank
bring_back-requires-2-clause-blank c = λ k d h l.
    let s = c.other.inside in
    added_blank c.args.rows c.at_most-other_up.result k s.page_rows c.append_rows_to_both.new.other d
    c.in_ok-append_rows_to_both.ensures.other
    (omega (
      arith,
      c.at_most-other_up.ensures,
      c.other.invariant.height,
      c.requires.other,
      ap (λ (p : Page). length p.rows) c.other.view_is,
    )) h l

pub invariant_of-self-2 : goal.invariant_of-self-2
invariant_of-self-2 c =
    let s = c.self.inside in
    let i = c.self.invariant in
    let h = c.args.rows in
    let above = c.args.above.now in
    let page = page_of s.page_rows s.pos s.saved_pos s.scroll_top s.scroll_bottom s.origin_mode s.saved_origin_mode in
    let more : length page.rows ≤ h = omega (arith, c.requires.own, ap (λ (p : Page). length p.rows) c.self.view_is) in
    let up : c.at_most-up.result ≡ returning_count h above page =
    c.at_most-up.ensures ∙ omega (arith, i.height, c.theoretical_len.ensures.value) in
    let steps = grown_page h h s.size.cols c.at_most-up.result above c.leave_view.new.self page s.page_rows c.append_rows_to_both.new.self
    c.bring_back.new.self c.resized-self-inside.result c.resized-self-inside-2.result more refl i.width up c.leave_view.ensures.value
    refl refl c.in_ok-append_rows_to_both.ensures.own c.bring_back.ensures.rows c.bring_back.ensures.width
    c.resized-self-inside.ensures.row c.resized-self-inside.ensures.col
    c.resized-self-inside-2.ensures.row c.resized-self-inside-2.ensures.col in
    resized_sound h h s.size.cols above page _ steps refl i.width (omega (arith, more, i.sound.cursor_row))
    c.ranges.rows.fits i.sound c.theoretical_len.ensures.sound

pub invariant_of-other-2 : goal.invariant_of-other-2
invariant_of-other-2 c =
    let s = c.other.inside in
    let i = c.other.invariant in
    let h = c.args.rows in
    let above = c.args.other_above.now in
    let page = page_of s.page_rows s.pos s.saved_pos s.scroll_top s.scroll_bottom s.origin_mode s.saved_origin_mode in
    let more : length page.rows ≤ h = omega (arith, c.requires.other, ap (λ (p : Page). length p.rows) c.other.view_is) in
    let up : c.at_most-other_up.result ≡ returning_count h above page =
    c.at_most-other_up.ensures ∙ omega (arith, i.height, c.theoretical_len-2.ensures.value) in
    let steps = grown_page h h s.size.cols c.at_most-other_up.result above c.leave_view-2.new.self page s.page_rows c.append_rows_to_both.new.other
    c.bring_back-2.new.self c.resized-other-inside.result c.resized-other-inside-2.result more refl i.width up c.leave_view-2.ensures.value
    refl refl c.in_ok-append_rows_to_both.ensures.other c.bring_back-2.ensures.rows c.bring_back-2.ensures.width
    c.resized-other-inside.ensures.row c.resized-other-inside.ensures.col
    c.resized-other-inside-2.ensures.row c.resized-other-inside-2.ensures.col in
    resized_sound h h s.size.cols above page _ steps refl i.width (omega (arith, more, i.sound.cursor_row))
    c.ranges.rows.fits i.sound c.theoretical_len-2.ensures.sound

pub returns-clause-own : goal.returns-clause-own
returns-clause-own c =
    let s = c.self.inside in
    let i = c.self.invariant in
    let h = c.args.rows in
    let above = c.args.above.now in
    let page = page_of s.page_rows s.pos s.saved_pos s.scroll_top s.scroll_bottom s.origin_mode s.saved_origin_mode in
    let more : length page.rows ≤ h = omega (arith, c.requires.own, ap (λ (p : Page). length p.rows) c.self.view_is) in
    let up : c.at_most-up.result ≡ returning_count h above page =
    c.at_most-up.ensures ∙ omega (arith, i.height, c.theoretical_len.ensures.value) in
    let steps = grown_page h h s.size.cols c.at_most-up.result above c.leave_view.new.self page s.page_rows c.append_rows_to_both.new.self
    c.bring_back.new.self c.resized-self-inside.result c.resized-self-inside-2.result more refl i.width up c.leave_view.ensures.value
    refl refl c.in_ok-append_rows_to_both.ensures.own c.bring_back.ensures.rows c.bring_back.ensures.width
    c.resized-self-inside.ensures.row c.resized-self-inside.ensures.col
    c.resized-self-inside-2.ensures.row c.resized-self-inside-2.ensures.col in
    record {
      page = steps ∙ (λ z. page_resized h (c.self.view_is z).width above (c.self.view_is z));
      above =
          grown_above h c.at_most-up.result above c.leave_view.new.self c.bring_back.new.above page more up c.leave_view.ensures.value
          c.bring_back.ensures.above
          ∙ ap (λ (p : Page). scrollback_resized h p above) c.self.view_is;
      err = tt;
      memory = tt;
    }

pub returns-clause-other : goal.returns-clause-other
returns-clause-other c =
    let s = c.other.inside in
    let i = c.other.invariant in
    let h = c.args.rows in
    let above = c.args.other_above.now in
    let page = page_of s.page_rows s.pos s.saved_pos s.scroll_top s.scroll_bottom s.origin_mode s.saved_origin_mode in
    let more : length page.rows ≤ h = omega (arith, c.requires.other, ap (λ (p : Page). length p.rows) c.other.view_is) in
    let up : c.at_most-other_up.result ≡ returning_count h above page =
    c.at_most-other_up.ensures ∙ omega (arith, i.height, c.theoretical_len-2.ensures.value) in
    let steps = grown_page h h s.size.cols c.at_most-other_up.result above c.leave_view-2.new.self page s.page_rows c.append_rows_to_both.new.other
    c.bring_back-2.new.self c.resized-other-inside.result c.resized-other-inside-2.result more refl i.width up c.leave_view-2.ensures.value
    refl refl c.in_ok-append_rows_to_both.ensures.other c.bring_back-2.ensures.rows c.bring_back-2.ensures.width
    c.resized-other-inside.ensures.row c.resized-other-inside.ensures.col
    c.resized-other-inside-2.ensures.row c.resized-other-inside-2.ensures.col in
    record {
      page = steps ∙ (λ z. page_resized h (c.other.view_is z).width above (c.other.view_is z));
      above =
          grown_above h c.at_most-other_up.result above c.leave_view-2.new.self c.bring_back-2.new.above page more up c.leave_view-2.ensures.value
          c.bring_back-2.ensures.above
          ∙ ap (λ (p : Page). scrollback_resized h p above) c.other.view_is;
      err = tt;
      memory = tt;
    }
