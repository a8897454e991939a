use Rattle.std.proofs.Common.{◌≡◌, ℕ, List, ◌++◌, string_bytes, ap, ◌∙◌, sym, subst}
use Rattle.vt_cells.specs.Op.{bytes_of_all}
use Rattle.vt_redraw.specs.Redraw.{cursor_state}
use Rattle.vt_screen.specs.Shown.{display}
use Rattle.vt_screen.proofs.ReadRedraws.{cursor_turns}
use Rattle.vt_screen.proofs.TouchReads.{cursor_touches}
use Rattle.vt_screen.specs.MadeOf.{IsMadeOf, drawing_finals, drawing_controls}
use Rattle.vt_screen.proofs.MadeOf.{cursor_made}
use Rattle.vt_screen.specs.Again.{KeepsPlain}
use Rattle.vt_screen.proofs.AgainPlain.{cursor_keeps}
use Rattle.vt_screen.proofs.screen.Screen.cursor_state_formatted.Goals as goal

pub returns-in-Ok-clause-turns : goal.returns-in-Ok-clause-turns
returns-in-Ok-clause-turns c =
    let bytes = bytes_of_all (cursor_state (display c.args.self.now)) in
    let told : string_bytes c.write_cursor_state.new.sink ≡ bytes =
    c.in-Ok.ensures.text ∙ ap (λ (before : List ℕ). before ++ bytes) c.new-text.ensures.bytes in
    cursor_turns c.args.self.now (string_bytes c.write_cursor_state.new.sink)
    told c.in-Ok.ensures.whole c.in-Ok.ensures.colored

pub returns-in-Ok-clause-touches : goal.returns-in-Ok-clause-touches
returns-in-Ok-clause-touches c steady =
    let bytes = bytes_of_all (cursor_state (display c.args.self.now)) in
    let told : string_bytes c.write_cursor_state.new.sink ≡ bytes =
    c.in-Ok.ensures.text ∙ ap (λ (before : List ℕ). before ++ bytes) c.new-text.ensures.bytes in
    cursor_touches c.args.self.now (string_bytes c.write_cursor_state.new.sink)
    told c.in-Ok.ensures.whole c.in-Ok.ensures.colored steady

pub returns-in-Ok-clause-controls : goal.returns-in-Ok-clause-controls
returns-in-Ok-clause-controls c =
    let bytes = bytes_of_all (cursor_state (display c.args.self.now)) in
    let told : string_bytes c.write_cursor_state.new.sink ≡ bytes =
    c.in-Ok.ensures.text ∙ ap (λ (before : List ℕ). before ++ bytes) c.new-text.ensures.bytes in
    subst (IsMadeOf drawing_finals drawing_controls) (sym told)
    (cursor_made c.args.self.now c.in-Ok.ensures.whole c.in-Ok.ensures.colored)

pub returns-in-Ok-clause-again : goal.returns-in-Ok-clause-again
returns-in-Ok-clause-again c =
    let bytes = bytes_of_all (cursor_state (display c.args.self.now)) in
    let told : string_bytes c.write_cursor_state.new.sink ≡ bytes =
    c.in-Ok.ensures.text ∙ ap (λ (before : List ℕ). before ++ bytes) c.new-text.ensures.bytes in
    subst KeepsPlain (sym told) (cursor_keeps c.args.self.now c.in-Ok.ensures.whole c.in-Ok.ensures.colored)
