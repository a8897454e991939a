use Rattle.std.proofs.Common.{string_bytes, ap, refl}
use Rattle.vt_screen.specs.Shown.{display, form_of}
use Rattle.vt_screen.proofs.MadeContents.{none_refused}
use Rattle.vt_screen.specs.Diffs.{form_with}
use Rattle.vt_screen.proofs.AgainForms.{difference_none_in}
use Rattle.vt_screen.proofs.RepeatDiffs.{diff_again, diff_empty, diff_made, diff_none, diff_redraw, diff_redraws}
use Rattle.vt_screen.proofs.RepeatDiffs.{diff_rows, diff_portable}
use Rattle.vt_screen.proofs.screen.Screen.contents_diff_with.Goals as goal

pub returns-clause-text : goal.returns-clause-text
returns-clause-text c =
    let is = c.in_ok-plain.ensures.text in record {
      plain = string_bytes c.in_ok-plain.plain;
      diff = is.diff;
      controls = is.has.controls;
      again = is.has.again;
      touches = λ portable. is.has.touches (ap form_of portable);
      repeats = c.in_ok-text.ensures.text;
    }

pub returns-in_err-plain-clause-never : goal.returns-in_err-plain-clause-never
returns-in_err-plain-clause-never c same =
    absurd (none_refused _ (difference_none_in (form_with c.args.options) (display c.args.self.now) (display c.args.prev.now) same)
    c.in_err-plain.ensures.nonempty)

pub returns-clause-rows : goal.returns-clause-rows
returns-clause-rows c =
    diff_rows c.args.options.repeat (form_with c.args.options) c.args.options.scroll c.args.prev.now c.args.self.now (string_bytes c.in_ok-plain.plain)
    (string_bytes c.in_ok-text.text) c.in_ok-plain.ensures.text c.in_ok-text.ensures.text

pub returns-clause-again : goal.returns-clause-again
returns-clause-again c =
    diff_again c.args.options.repeat (form_with c.args.options) c.args.options.scroll c.args.prev.now c.args.self.now (string_bytes c.in_ok-plain.plain)
    (string_bytes c.in_ok-text.text) c.in_ok-plain.ensures.text c.in_ok-text.ensures.text

pub returns-clause-redraws : goal.returns-clause-redraws
returns-clause-redraws c =
    diff_redraws c.args.options.repeat (form_with c.args.options) c.args.options.scroll c.args.prev.now c.args.self.now (string_bytes c.in_ok-plain.plain)
    (string_bytes c.in_ok-text.text) c.in_ok-plain.ensures.text c.in_ok-text.ensures.text

pub returns-clause-empty : goal.returns-clause-empty
returns-clause-empty c =
    diff_empty c.args.options.repeat (form_with c.args.options) c.args.options.scroll c.args.prev.now c.args.self.now (string_bytes c.in_ok-plain.plain)
    (string_bytes c.in_ok-text.text) c.in_ok-plain.ensures.text c.in_ok-text.ensures.text

pub returns-clause-none : goal.returns-clause-none
returns-clause-none c =
    diff_none c.args.options.repeat (form_with c.args.options) c.args.options.scroll c.args.prev.now c.args.self.now (string_bytes c.in_ok-plain.plain)
    (string_bytes c.in_ok-text.text) c.in_ok-plain.ensures.text c.in_ok-text.ensures.text

pub returns-clause-redraw : goal.returns-clause-redraw
returns-clause-redraw c scrolls =
    diff_redraw c.args.options.repeat (form_with c.args.options) c.args.options.scroll c.args.prev.now c.args.self.now (string_bytes c.in_ok-plain.plain)
    (string_bytes c.in_ok-text.text) c.in_ok-plain.ensures.text c.in_ok-text.ensures.text scrolls

pub returns-clause-controls : goal.returns-clause-controls
returns-clause-controls c =
    diff_made c.args.options.repeat (form_with c.args.options) c.args.options.scroll c.args.prev.now c.args.self.now (string_bytes c.in_ok-plain.plain)
    (string_bytes c.in_ok-text.text) c.in_ok-plain.ensures.text c.in_ok-text.ensures.text c.in_ok-text.ensures.pieces

pub returns-clause-portable : goal.returns-clause-portable
returns-clause-portable c portable =
    diff_portable c.args.options.portable (form_with c.args.options) c.args.options.scroll c.args.prev.now c.args.self.now
    (string_bytes c.in_ok-plain.plain) (string_bytes c.in_ok-text.text) c.in_ok-plain.ensures.text
    c.in_ok-text.ensures.agrees refl portable
