use Rattle.std.proofs.Common.{◌≡◌, ℕ, List, ◌++◌, string_bytes, ap, sym, ◌∙◌, subst}
use Rattle.vt_screen.specs.Shown.{shown_text}
use Rattle.vt_screen.proofs.ReadRedraws.{redraw_redraws, redraws_tell}
use Rattle.vt_screen.specs.MadeOf.{IsMadeOf, drawing_finals, drawing_controls}
use Rattle.vt_screen.proofs.MadeOf.{redraw_made}
use Rattle.vt_screen.specs.Again.{KeepsPlain}
use Rattle.vt_screen.proofs.AgainPlain.{redraw_keeps}
use Rattle.vt_screen.proofs.screen.Screen.contents_formatted.Goals as goal

pub returns-in-Ok-clause-redraws : goal.returns-in-Ok-clause-redraws
returns-in-Ok-clause-redraws c =
    let bytes = shown_text c.args.self.now in
    let told : string_bytes c.write_contents_formatted.new.sink ≡ bytes =
    c.in-Ok.ensures.text ∙ ap (λ (before : List ℕ). before ++ bytes) c.new-text.ensures.bytes in
    redraw_redraws c.args.self.now (string_bytes c.write_contents_formatted.new.sink)
    told c.in-Ok.ensures.whole c.in-Ok.ensures.colored

pub returns-in-Ok-clause-same : goal.returns-in-Ok-clause-same
returns-in-Ok-clause-same c other is colored size steady steady_other equal =
    let bytes = shown_text c.args.self.now in
    let told : string_bytes c.write_contents_formatted.new.sink ≡ bytes =
    c.in-Ok.ensures.text ∙ ap (λ (before : List ℕ). before ++ bytes) c.new-text.ensures.bytes in
    redraws_tell c.args.self.now other c.in-Ok.ensures.whole
    c.in-Ok.ensures.colored steady is colored steady_other size (sym told ∙ equal)

pub returns-in-Ok-clause-controls : goal.returns-in-Ok-clause-controls
returns-in-Ok-clause-controls c =
    let bytes = shown_text c.args.self.now in
    let told : string_bytes c.write_contents_formatted.new.sink ≡ bytes =
    c.in-Ok.ensures.text ∙ ap (λ (before : List ℕ). before ++ bytes) c.new-text.ensures.bytes in
    subst (IsMadeOf drawing_finals drawing_controls) (sym told)
    (redraw_made c.args.self.now c.in-Ok.ensures.whole c.in-Ok.ensures.colored)

pub returns-in-Ok-clause-again : goal.returns-in-Ok-clause-again
returns-in-Ok-clause-again c =
    let bytes = shown_text c.args.self.now in
    let told : string_bytes c.write_contents_formatted.new.sink ≡ bytes =
    c.in-Ok.ensures.text ∙ ap (λ (before : List ℕ). before ++ bytes) c.new-text.ensures.bytes in
    subst KeepsPlain (sym told) (redraw_keeps c.args.self.now c.in-Ok.ensures.whole c.in-Ok.ensures.colored)
