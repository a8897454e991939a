-- Both pages are resized to another width in place.
use Rattle.std.proofs.Common.{◌≡◌, length, refl, rules, sym, ap, ◌∙◌, arith}
use Rattle.std.specs.Prelude.{option_map}
use Rattle.vt_grid.specs.Resize.{page_resized}
use Rattle.vt_grid.specs.Scrollback.{Scrollback, no_scrollback}
use Rattle.vt_screen.specs.Screen.{ScreenValue}
use Rattle.vt_screen.specs.contracts.screen.Screen.{the_view}
use Rattle.vt_screen.proofs.StepPages.{kept_columns, kept_idle, nothing_columns, other_columns, other_width}
use Rattle.vt_screen.proofs.StepPages.{quiet_in_place, view_columns}
use Rattle.vt_screen.proofs.screen.resizing.set_cols.Goals as goal

pub set_cols-requires-clause-different : goal.set_cols-requires-clause-different
set_cols-requires-clause-different c = λ e. c.requires.width (e ∙ ap (λ (x : ScreenValue). x.page.width) c.screen.view_is)

pub set_cols-requires-clause-equal : goal.set_cols-requires-clause-equal
set_cols-requires-clause-equal c = other_width c.screen.inside.grid c.screen.inside.other c.screen.invariant.other

pub invariant_of-screen : goal.invariant_of-screen
invariant_of-screen c =
    let s = c.screen.inside in
    let none : c.clear.new.self ≡ no_scrollback 0 = search rules in
    let own = c.if-not-set_cols.ensures.own.undone refl in
    let other = c.if-not-set_cols.ensures.undone refl in
    rw (own.0, own.1, other.0, other.1, none)
    (kept_idle s.grid s.last s.other s.is_alternate s.scrollback s.other_scrollback (no_scrollback 0)
    (ap (λ (x : ScreenValue). x.is_alternate) c.screen.view_is ∙ c.requires.main)
    (record { capacity = refl; rows = refl; offset = refl }) c.screen.invariant)

pub invariant_of-screen-2 : goal.invariant_of-screen-2
invariant_of-screen-2 c =
    let s = c.screen.inside in
    let i = c.screen.invariant in
    let rows = c.args.size.rows in
    let cols = c.args.size.cols in
    let height : rows ≡ length s.grid.rows =
    c.requires.height ∙ ap (λ (x : ScreenValue). length x.page.rows) (sym c.screen.view_is) in
    let none : c.clear.new.self ≡ no_scrollback 0 = search rules in
    let done = c.if-not-set_cols.ensures in
    kept_columns rows cols s.grid c.set_cols.new.self s.last
    _ c.set_cols.new.other c.set_cols.new.above c.set_cols.new.other_above height
    c.requires.size.rows (search rules) c.requires.size.cols (search rules)
    (ap (λ (x : ScreenValue). x.is_alternate) c.screen.view_is ∙ c.requires.main)
    (done.own.page refl) (done.own.above refl)
    (done.other refl
    ∙ (ap (λ (z : Scrollback). option_map (λ p. page_resized (length p.rows) cols z p) s.other) none
    ∙ other_columns rows cols s.grid s.other height i.other))
    (nothing_columns s.other c.clear.new.self c.set_cols.new.other_above none (done.other_above refl) done.none) i

pub returns-clause-done : goal.returns-clause-done
returns-clause-done c =
    let s = c.screen.inside in
    let rows = c.args.size.rows in
    let cols = c.args.size.cols in
    let height : rows ≡ length s.grid.rows =
    c.requires.height ∙ ap (λ (x : ScreenValue). length x.page.rows) (sym c.screen.view_is) in
    let none : c.clear.new.self ≡ no_scrollback 0 = search rules in
    let done = c.if-not-set_cols.ensures in
    λ _. view_columns rows cols (the_view s) c.args.screen.now
    s.scrollback s.other_scrollback c.set_cols.new.above c.set_cols.new.other_above c.set_cols.new.self
    c.set_cols.new.other c.screen.view_is refl c.requires.main height (done.own.page refl) (done.own.above refl)
    (done.other refl
    ∙ (ap (λ (z : Scrollback). option_map (λ p. page_resized (length p.rows) cols z p) s.other) none
    ∙ other_columns rows cols s.grid s.other height c.screen.invariant.other))

pub returns-clause-quiet : goal.returns-clause-quiet
returns-clause-quiet c =
    let height : c.args.size.rows ≡ length c.screen.inside.grid.rows =
    c.requires.height ∙ ap (λ (x : ScreenValue). length x.page.rows) (sym c.screen.view_is) in
    quiet_in_place c.args.size.rows (the_view c.screen.inside) c.args.screen.now c.screen.view_is
    (omega (arith, height)) c.screen.invariant.other
