-- The run is printed, and its last character is the last character of the screen.
use Rattle.std.proofs.Common.{◌-◌, length, sym, subst, ap, ◌∙◌, arith, rules}
use Rattle.std.specs.Prelude.{Some}
use Rattle.vt_cells.proofs.Packing.{attrs_fit}
use Rattle.vt_rows.proofs.Texts.{narrow_ascii, narrow_printable}
use Rattle.vt_screen.specs.Screen.{IsPrintable}
use Rattle.vt_screen.specs.Texts.{screen_after_text}
use Rattle.vt_screen.specs.contracts.screen.Screen.{the_view}
use Rattle.vt_screen.proofs.StepRuns.{kept_text, text_stepped_is}
use Rattle.vt_screen.proofs.screen.printing.print_text.Goals as goal

pub invariant_of-screen : goal.invariant_of-screen
invariant_of-screen c =
    let text = c.args.text.now in
    let b = c.requires.printable (length text - 1) 0 (omega arith) in
    let drawn = narrow_ascii _ b.0 b.1 in
    let shown : IsPrintable c.from.result = subst IsPrintable (sym c.from.ensures) (drawn.0, drawn.1.0) in
    rw c.print_text.ensures
    (kept_text text c.screen.inside.attrs c.screen.inside.grid c.screen.inside.last
    c.from.result _ (narrow_printable text c.requires.printable) shown (search (rules, attrs_fit)) c.screen.invariant)

pub returns : goal.returns
returns c =
    let s = the_view c.screen.inside in
    let text = c.args.text.now in
    (λ z. record s { page = c.print_text.ensures z; last = Some (c.from.ensures z) })
    ∙ (sym (text_stepped_is text s c.requires.nonempty (narrow_printable text c.requires.printable)
    c.screen.invariant.sound.has_columns)
    ∙ ap (screen_after_text text) c.screen.view_is)
