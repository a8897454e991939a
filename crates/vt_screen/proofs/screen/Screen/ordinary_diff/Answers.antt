use Rattle.std.proofs.Common.{◌≡◌, ℕ, List, ◌++◌, length, string_bytes, ap, sym, ◌∙◌, subst, arith}
use Rattle.vt_redraw.specs.declared.form.Form.{Form}
use Rattle.vt_screen.specs.Again.{KeepsPlain}
use Rattle.vt_screen.specs.MadeOf.{IsMadeOf, drawing_finals, drawing_controls}
use Rattle.vt_screen.specs.Portable.{IsPortableFrom}
use Rattle.vt_screen.specs.Shown.{display, display_change_in}
use Rattle.vt_screen.proofs.AgainForms.{difference_keeps_in, difference_made_in, difference_none_in}
use Rattle.vt_screen.proofs.AgainForms.{difference_redraws_in, difference_tells_in, difference_is_portable}
use Rattle.vt_screen.proofs.TouchReads.{difference_touches}
use Rattle.vt_screen.proofs.Shown.{same_shown}
use Rattle.vt_screen.proofs.screen.Screen.ordinary_diff.Goals as goal

pub returns-in-Ok-clause-text : goal.returns-in-Ok-clause-text
returns-in-Ok-clause-text c =
    let form = c.args.form in
    let self = c.args.self.now in
    let prev = c.args.prev.now in
    let written = c.in-Ok.ensures in
    let bytes = display_change_in form prev self in
    let text = string_bytes c.write_contents_diff_in.new.sink in
    let told : text ≡ bytes = written.text ∙ ap (λ (before : List ℕ). before ++ bytes) c.new-text.ensures.bytes in
    let size = same_shown self prev c.requires in
    let long = ap length told in
    record {
      diff = told;
      redraw = λ scrolls. absurd (cc);
      has = record {
        controls = subst (IsMadeOf drawing_finals drawing_controls) (sym told)
            (difference_made_in form self prev written.whole written.colored written.other written.other_colored);
        again = subst KeepsPlain (sym told)
            (difference_keeps_in form self prev written.whole written.colored written.other written.other_colored);
        shorter = omega (arith, long);
        redraws = difference_redraws_in form self prev text told written.whole written.colored written.other
            written.other_colored size;
        empty = λ steady empty. difference_tells_in form self prev written.whole written.colored steady written.other
            written.other_colored size (sym told ∙ empty);
        none = λ same. told ∙ difference_none_in form (display self) (display prev) same;
        portable = λ e. subst (IsPortableFrom prev self) (sym told)
            (subst (λ (f : Form). IsPortableFrom prev self (display_change_in f prev self)) (sym e)
            (difference_is_portable self prev written.whole written.colored written.other written.other_colored size));
        touches = λ e _ steady. difference_touches self prev text
            (told ∙ ap (λ (f : Form). display_change_in f prev self) e) written.whole written.colored steady
            written.other written.other_colored size;
      };
    }
