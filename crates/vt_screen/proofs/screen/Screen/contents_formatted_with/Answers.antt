use Rattle.std.proofs.Common.{◌≡◌, ℕ, Bool, List, ◌++◌, string_bytes, ap, sym, ◌∙◌, subst}
use Rattle.vt_redraw.specs.declared.form.Form.{Form}
use Rattle.vt_redraw.specs.declared.form.Form.TheVariants.{Portable}
use Rattle.vt_screen.specs.Again.{KeepsPlain}
use Rattle.vt_screen.specs.MadeOf.{IsMadeOf, drawing_finals, drawing_controls}
use Rattle.vt_screen.specs.Shown.{form_of, shown_text_in}
use Rattle.vt_screen.specs.Portable.{IsPortableAnywhere}
use Rattle.vt_screen.proofs.AgainForms.{redraw_is_portable, redraw_keeps_in, redraw_made_in, redraw_redraws_in}
use Rattle.vt_screen.proofs.AgainForms.{redraws_tell_in}
use Rattle.vt_screen.proofs.screen.Screen.contents_formatted_with.Goals as goal

pub returns-in-Ok-clause-redraws : goal.returns-in-Ok-clause-redraws
returns-in-Ok-clause-redraws c =
    let form = form_of c.args.options.portable in
    let bytes = shown_text_in form c.args.self.now in
    let told : string_bytes c.write_contents_formatted_in.new.sink ≡ bytes =
    c.in-Ok.ensures.text
    ∙ ap (λ (f : Form). string_bytes c.new-text.result ++ shown_text_in f c.args.self.now) c.form_of.ensures
    ∙ ap (λ (before : List ℕ). before ++ bytes) c.new-text.ensures.bytes in
    redraw_redraws_in form c.args.self.now (string_bytes c.write_contents_formatted_in.new.sink)
    told c.in-Ok.ensures.whole c.in-Ok.ensures.colored

pub returns-in-Ok-clause-same : goal.returns-in-Ok-clause-same
returns-in-Ok-clause-same c other is colored size steady steady_other equal =
    let form = form_of c.args.options.portable in
    let bytes = shown_text_in form c.args.self.now in
    let told : string_bytes c.write_contents_formatted_in.new.sink ≡ bytes =
    c.in-Ok.ensures.text
    ∙ ap (λ (f : Form). string_bytes c.new-text.result ++ shown_text_in f c.args.self.now) c.form_of.ensures
    ∙ ap (λ (before : List ℕ). before ++ bytes) c.new-text.ensures.bytes in
    redraws_tell_in form c.args.self.now other c.in-Ok.ensures.whole
    c.in-Ok.ensures.colored steady is colored steady_other size (sym told ∙ equal)

pub returns-in-Ok-clause-controls : goal.returns-in-Ok-clause-controls
returns-in-Ok-clause-controls c =
    let form = form_of c.args.options.portable in
    let bytes = shown_text_in form c.args.self.now in
    let told : string_bytes c.write_contents_formatted_in.new.sink ≡ bytes =
    c.in-Ok.ensures.text
    ∙ ap (λ (f : Form). string_bytes c.new-text.result ++ shown_text_in f c.args.self.now) c.form_of.ensures
    ∙ ap (λ (before : List ℕ). before ++ bytes) c.new-text.ensures.bytes in
    subst (IsMadeOf drawing_finals drawing_controls) (sym told)
    (redraw_made_in form c.args.self.now c.in-Ok.ensures.whole c.in-Ok.ensures.colored)

pub returns-in-Ok-clause-again : goal.returns-in-Ok-clause-again
returns-in-Ok-clause-again c =
    let form = form_of c.args.options.portable in
    let bytes = shown_text_in form c.args.self.now in
    let told : string_bytes c.write_contents_formatted_in.new.sink ≡ bytes =
    c.in-Ok.ensures.text
    ∙ ap (λ (f : Form). string_bytes c.new-text.result ++ shown_text_in f c.args.self.now) c.form_of.ensures
    ∙ ap (λ (before : List ℕ). before ++ bytes) c.new-text.ensures.bytes in
    subst KeepsPlain (sym told) (redraw_keeps_in form c.args.self.now c.in-Ok.ensures.whole c.in-Ok.ensures.colored)

pub returns-in-Ok-clause-portable : goal.returns-in-Ok-clause-portable
returns-in-Ok-clause-portable c portable =
    let self = c.args.self.now in
    let told : string_bytes c.write_contents_formatted_in.new.sink ≡ shown_text_in Portable self =
    c.in-Ok.ensures.text
    ∙ ap (λ (f : Form). string_bytes c.new-text.result ++ shown_text_in f self) c.form_of.ensures
    ∙ (ap (λ (before : List ℕ). before ++ shown_text_in (form_of c.args.options.portable) self) c.new-text.ensures.bytes
    ∙ ap (λ (b : Bool). shown_text_in (form_of b) self) portable) in
    subst (IsPortableAnywhere self) (sym told) (redraw_is_portable self c.in-Ok.ensures.whole c.in-Ok.ensures.colored)
