-- Rows are added to both pages in place.
use Rattle.std.proofs.Common.{◌≡◌, ◌≤◌, length, refl, rules, sym, subst, ap, ◌∙◌, arith}
use Rattle.std.specs.Prelude.{option_map}
use Rattle.vt_grid.specs.Resize.{page_resized}
use Rattle.vt_grid.specs.Scrollback.{Scrollback, no_scrollback}
use Rattle.vt_screen.specs.Screen.{ScreenValue}
use Rattle.vt_screen.specs.contracts.screen.Screen.{the_view}
use Rattle.vt_screen.proofs.StepPages.{kept_in_place, more_in_place, nothing_in_place, other_in_place, quiet_in_place}
use Rattle.vt_screen.proofs.StepPages.{view_in_place}
use Rattle.vt_screen.proofs.screen.resizing.add_rows.Goals as goal

pub add_rows-requires-clause-own : goal.add_rows-requires-clause-own
add_rows-requires-clause-own c =
    subst (λ (x : ScreenValue). length x.page.rows ≤ c.args.size.rows) (sym c.screen.view_is) c.requires.more

pub add_rows-requires-clause-other : goal.add_rows-requires-clause-other
add_rows-requires-clause-other c =
    more_in_place c.args.size.rows c.screen.inside.grid c.screen.inside.other
    (subst (λ (x : ScreenValue). length x.page.rows ≤ c.args.size.rows) (sym c.screen.view_is) c.requires.more)
    c.screen.invariant.other

pub invariant_of-screen-2 : goal.invariant_of-screen-2
invariant_of-screen-2 c =
    let s = c.screen.inside in
    let i = c.screen.invariant in
    let more : length s.grid.rows ≤ c.args.size.rows =
    subst (λ (x : ScreenValue). length x.page.rows ≤ c.args.size.rows) (sym c.screen.view_is) c.requires.more in
    let width : c.args.size.cols ≡ s.grid.width =
    subst (λ (x : ScreenValue). c.args.size.cols ≡ x.page.width) (sym c.screen.view_is) c.requires.width in
    let none : c.clear.new.self ≡ no_scrollback 0 = search rules in
    kept_in_place c.args.size.rows c.args.size.cols s.grid c.add_rows.new.self s.last
    _ c.add_rows.new.other c.add_rows.new.above c.add_rows.new.other_above width
    (omega (arith, more, i.sound.cursor_row)) (search rules)
    (omega (arith, width, i.sound.has_columns)) (search rules)
    (ap (λ (x : ScreenValue). x.is_alternate) c.screen.view_is ∙ c.requires.main)
    c.in_ok-add_rows.ensures.own.page c.in_ok-add_rows.ensures.own.above
    (c.in_ok-add_rows.ensures.other
    ∙ (ap (λ (z : Scrollback). option_map (λ p. page_resized c.args.size.rows p.width z p) s.other) none
    ∙ other_in_place c.args.size.rows c.args.size.cols s.grid s.other width i.other))
    (nothing_in_place c.args.size.rows s.other c.clear.new.self c.add_rows.new.other_above none
    c.in_ok-add_rows.ensures.other_above c.in_ok-add_rows.ensures.none) i

pub returns-clause-ok : goal.returns-clause-ok
returns-clause-ok c =
    let s = c.screen.inside in
    let width : c.args.size.cols ≡ s.grid.width =
    subst (λ (x : ScreenValue). c.args.size.cols ≡ x.page.width) (sym c.screen.view_is) c.requires.width in
    let none : c.clear.new.self ≡ no_scrollback 0 = search rules in
    view_in_place c.args.size.rows c.args.size.cols (the_view s) c.args.screen.now
    s.scrollback s.other_scrollback c.add_rows.new.above c.add_rows.new.other_above c.add_rows.new.self
    c.add_rows.new.other c.screen.view_is refl c.requires.main c.requires.width
    c.in_ok-add_rows.ensures.own.page c.in_ok-add_rows.ensures.own.above
    (c.in_ok-add_rows.ensures.other
    ∙ (ap (λ (z : Scrollback). option_map (λ p. page_resized c.args.size.rows p.width z p) s.other) none
    ∙ other_in_place c.args.size.rows c.args.size.cols s.grid s.other width c.screen.invariant.other))

pub returns-clause-quiet : goal.returns-clause-quiet
returns-clause-quiet c =
    quiet_in_place c.args.size.rows (the_view c.screen.inside) c.args.screen.now c.screen.view_is
    (subst (λ (x : ScreenValue). length x.page.rows ≤ c.args.size.rows) (sym c.screen.view_is) c.requires.more)
    c.screen.invariant.other
