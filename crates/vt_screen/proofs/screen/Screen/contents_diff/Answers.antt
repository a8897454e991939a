use Rattle.std.proofs.Common.{◌≡◌, ℕ, List, ◌++◌, string_bytes, ap, sym, ◌∙◌, subst}
use Rattle.vt_screen.specs.Shown.{display, display_change}
use Rattle.vt_screen.proofs.ReadRedraws.{difference_redraws, difference_none, difference_tells}
use Rattle.vt_screen.proofs.TouchReads.{difference_touches}
use Rattle.vt_screen.proofs.Shown.{same_shown}
use Rattle.vt_screen.proofs.MadeContents.{none_refused}
use Rattle.vt_screen.specs.MadeOf.{IsMadeOf, drawing_finals, drawing_controls}
use Rattle.vt_screen.proofs.MadeOf.{difference_made}
use Rattle.vt_screen.specs.Again.{KeepsPlain}
use Rattle.vt_screen.proofs.AgainPlain.{difference_keeps}
use Rattle.vt_screen.proofs.screen.Screen.contents_diff.Goals as goal

pub returns-in-Ok-clause-redraws : goal.returns-in-Ok-clause-redraws
returns-in-Ok-clause-redraws c =
    let bytes = display_change c.args.prev.now c.args.self.now in
    let told : string_bytes c.write_contents_diff.new.sink ≡ bytes =
    c.in-Ok.ensures.text ∙ ap (λ (before : List ℕ). before ++ bytes) c.new-text.ensures.bytes in
    let size = same_shown c.args.self.now c.args.prev.now c.requires in
    difference_redraws c.args.self.now c.args.prev.now (string_bytes c.write_contents_diff.new.sink) told
    c.in-Ok.ensures.whole c.in-Ok.ensures.colored c.in-Ok.ensures.other c.in-Ok.ensures.other_colored size

pub returns-in-Ok-clause-empty : goal.returns-in-Ok-clause-empty
returns-in-Ok-clause-empty c steady empty =
    let bytes = display_change c.args.prev.now c.args.self.now in
    let told : string_bytes c.write_contents_diff.new.sink ≡ bytes =
    c.in-Ok.ensures.text ∙ ap (λ (before : List ℕ). before ++ bytes) c.new-text.ensures.bytes in
    let size = same_shown c.args.self.now c.args.prev.now c.requires in
    difference_tells c.args.self.now c.args.prev.now c.in-Ok.ensures.whole c.in-Ok.ensures.colored
    steady c.in-Ok.ensures.other c.in-Ok.ensures.other_colored size (sym told ∙ empty)

pub returns-in-Ok-clause-none : goal.returns-in-Ok-clause-none
returns-in-Ok-clause-none c same =
    let bytes = display_change c.args.prev.now c.args.self.now in
    let told : string_bytes c.write_contents_diff.new.sink ≡ bytes =
    c.in-Ok.ensures.text ∙ ap (λ (before : List ℕ). before ++ bytes) c.new-text.ensures.bytes in
    told ∙ difference_none (display c.args.self.now) (display c.args.prev.now) same

pub returns-in-Ok-clause-touches : goal.returns-in-Ok-clause-touches
returns-in-Ok-clause-touches c steady =
    let bytes = display_change c.args.prev.now c.args.self.now in
    let told : string_bytes c.write_contents_diff.new.sink ≡ bytes =
    c.in-Ok.ensures.text ∙ ap (λ (before : List ℕ). before ++ bytes) c.new-text.ensures.bytes in
    let size = same_shown c.args.self.now c.args.prev.now c.requires in
    difference_touches c.args.self.now c.args.prev.now (string_bytes c.write_contents_diff.new.sink) told
    c.in-Ok.ensures.whole c.in-Ok.ensures.colored steady c.in-Ok.ensures.other c.in-Ok.ensures.other_colored size

pub returns-in-Err-clause-never : goal.returns-in-Err-clause-never
returns-in-Err-clause-never c same =
    absurd (none_refused _ (difference_none (display c.args.self.now) (display c.args.prev.now) same) c.in-Err.ensures.nonempty)

pub returns-in-Ok-clause-controls : goal.returns-in-Ok-clause-controls
returns-in-Ok-clause-controls c =
    let bytes = display_change c.args.prev.now c.args.self.now in
    let told : string_bytes c.write_contents_diff.new.sink ≡ bytes =
    c.in-Ok.ensures.text ∙ ap (λ (before : List ℕ). before ++ bytes) c.new-text.ensures.bytes in
    subst (IsMadeOf drawing_finals drawing_controls) (sym told)
    (difference_made c.args.self.now c.args.prev.now c.in-Ok.ensures.whole c.in-Ok.ensures.colored c.in-Ok.ensures.other_colored)

pub returns-in-Ok-clause-again : goal.returns-in-Ok-clause-again
returns-in-Ok-clause-again c =
    let bytes = display_change c.args.prev.now c.args.self.now in
    let told : string_bytes c.write_contents_diff.new.sink ≡ bytes =
    c.in-Ok.ensures.text ∙ ap (λ (before : List ℕ). before ++ bytes) c.new-text.ensures.bytes in
    subst KeepsPlain (sym told)
    (difference_keeps c.args.self.now c.args.prev.now c.in-Ok.ensures.whole c.in-Ok.ensures.colored c.in-Ok.ensures.other_colored)
