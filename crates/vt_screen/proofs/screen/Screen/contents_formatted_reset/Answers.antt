use Rattle.std.proofs.Common.{◌≡◌, ℕ, List, ◌++◌, string_bytes, ap, sym, ◌∙◌, subst}
use Rattle.vt_screen.specs.AnyRegion.{reset_text}
use Rattle.vt_screen.specs.Shown.{display}
use Rattle.vt_screen.proofs.StepRegions.{reset_redraws, resets_tell}
use Rattle.vt_screen.specs.MadeOf.{IsMadeOf, drawing_finals, reset_controls}
use Rattle.vt_screen.proofs.MadeOf.{reset_made}
use Rattle.vt_screen.specs.Again.{MakesPlain}
use Rattle.vt_screen.proofs.AgainPlain.{reset_makes}
use Rattle.vt_screen.proofs.screen.Screen.contents_formatted_reset.Goals as goal

pub returns-in-Ok-clause-redraws : goal.returns-in-Ok-clause-redraws
returns-in-Ok-clause-redraws c =
    let bytes = reset_text (display c.args.self.now) in
    let told : string_bytes c.write_contents_formatted_reset.new.sink ≡ bytes =
    c.in-Ok.ensures.text ∙ ap (λ (before : List ℕ). before ++ bytes) c.new-text.ensures.bytes in
    reset_redraws c.args.self.now (string_bytes c.write_contents_formatted_reset.new.sink)
    told c.in-Ok.ensures.whole c.in-Ok.ensures.colored

pub returns-in-Ok-clause-same : goal.returns-in-Ok-clause-same
returns-in-Ok-clause-same c other is colored size steady steady_other equal =
    let bytes = reset_text (display c.args.self.now) in
    let told : string_bytes c.write_contents_formatted_reset.new.sink ≡ bytes =
    c.in-Ok.ensures.text ∙ ap (λ (before : List ℕ). before ++ bytes) c.new-text.ensures.bytes in
    resets_tell c.args.self.now other c.in-Ok.ensures.whole
    c.in-Ok.ensures.colored steady is colored steady_other size (sym told ∙ equal)

pub returns-in-Ok-clause-controls : goal.returns-in-Ok-clause-controls
returns-in-Ok-clause-controls c =
    let bytes = reset_text (display c.args.self.now) in
    let told : string_bytes c.write_contents_formatted_reset.new.sink ≡ bytes =
    c.in-Ok.ensures.text ∙ ap (λ (before : List ℕ). before ++ bytes) c.new-text.ensures.bytes in
    subst (IsMadeOf drawing_finals reset_controls) (sym told)
    (reset_made c.args.self.now c.in-Ok.ensures.whole c.in-Ok.ensures.colored)

pub returns-in-Ok-clause-again : goal.returns-in-Ok-clause-again
returns-in-Ok-clause-again c =
    let bytes = reset_text (display c.args.self.now) in
    let told : string_bytes c.write_contents_formatted_reset.new.sink ≡ bytes =
    c.in-Ok.ensures.text ∙ ap (λ (before : List ℕ). before ++ bytes) c.new-text.ensures.bytes in
    subst MakesPlain (sym told) (reset_makes c.args.self.now c.in-Ok.ensures.whole c.in-Ok.ensures.colored)
