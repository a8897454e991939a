use Rattle.std.proofs.Common.{ℕ, List, length, ap, ◌∙◌, subst, sym}
use Rattle.vt_screen.specs.RowsShown.{changed_text, texts_from}
use Rattle.vt_screen.specs.Shown.{display}
use Rattle.vt_screen.proofs.ReadRows.{changed_empty, changed_leaves, changed_turns, texts_count, texts_at}
use Rattle.vt_screen.specs.MadeOf.{IsMadeOf, drawing_controls, drawing_finals}
use Rattle.vt_screen.specs.RowsShown.{text_at}
use Rattle.vt_screen.proofs.MadeOf.{row_change_made}
use Rattle.vt_screen.proofs.screen.Screen.rows_diff.Goals as goal

pub returns-clause-count : goal.returns-clause-count
returns-clause-count c =
    let s = c.args.self.now in
    ap (λ (t : List (List ℕ)). length t) c.new.ensures
    ∙ texts_count (changed_text c.args.start c.range_end.result (display s) (display c.args.prev.now)) (length s.page.rows)

pub returns-clause-draws : goal.returns-clause-draws
returns-clause-draws c =
    let s = c.args.self.now in
    let told = c.new.ensures
    ∙ ap
    (λ (stop : ℕ). texts_from (changed_text c.args.start stop (display s) (display c.args.prev.now)) 0 (length s.page.rows))
    c.range_end.ensures.value in
    changed_turns s c.args.prev.now c.args.start c.args.width c.new.result
    told c.sound.ensures.whole c.sound.ensures.colored c.requires.start

pub returns-clause-unwrapped : goal.returns-clause-unwrapped
returns-clause-unwrapped c =
    let s = c.args.self.now in
    let told = c.new.ensures
    ∙ ap
    (λ (stop : ℕ). texts_from (changed_text c.args.start stop (display s) (display c.args.prev.now)) 0 (length s.page.rows))
    c.range_end.ensures.value in
    changed_leaves s c.args.prev.now c.args.start c.args.width c.new.result told
    c.sound.ensures.whole c.sound.ensures.colored c.sound-2.ensures.whole c.requires.size

pub returns-clause-empty : goal.returns-clause-empty
returns-clause-empty c =
    let s = c.args.self.now in
    let told = c.new.ensures
    ∙ ap
    (λ (stop : ℕ). texts_from (changed_text c.args.start stop (display s) (display c.args.prev.now)) 0 (length s.page.rows))
    c.range_end.ensures.value in
    changed_empty s c.args.prev.now c.args.start c.args.width c.new.result
    told c.sound.ensures.whole c.sound-2.ensures.whole c.requires.size

pub returns-clause-controls : goal.returns-clause-controls
returns-clause-controls c r low =
    let s = c.args.self.now in
    let told = ap (λ (t : List (List ℕ)). text_at t r) c.new.ensures
    ∙ texts_at (changed_text c.args.start c.range_end.result (display s) (display c.args.prev.now)) r (length s.page.rows) low in
    subst (IsMadeOf drawing_finals drawing_controls) (sym told)
    (row_change_made s c.args.prev.now r c.args.start c.range_end.result c.sound.ensures.whole c.sound.ensures.colored
    low c.range_end.ensures.order c.range_end.ensures.inside)
