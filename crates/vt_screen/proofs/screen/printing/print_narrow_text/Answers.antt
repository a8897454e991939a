-- The run is printed, and its last character is the last character of the screen.
use Rattle.std.proofs.Common.{◌≡◌, ◌-◌, ◌<◌, length, get_or, sym, subst, ap, ◌∙◌, arith, rules}
use Rattle.std.specs.Prelude.{Some}
use Rattle.std.proofs.lemmas.List.{get_or_default}
use Rattle.vt_cells.proofs.Packing.{attrs_fit}
use Rattle.vt_screen.specs.Screen.{IsPrintable}
use Rattle.vt_screen.specs.Texts.{screen_after_text}
use Rattle.vt_screen.specs.contracts.screen.Screen.{the_view}
use Rattle.vt_screen.proofs.StepRuns.{kept_text, text_stepped_is}
use Rattle.vt_screen.proofs.screen.printing.print_narrow_text.Goals as goal

pub invariant_of-screen : goal.invariant_of-screen
invariant_of-screen c =
    let text = c.args.text.now in
    let last = c.index-text-text.result in
    let inside : length text - 1 < length text = omega arith in
    let b = c.requires.narrow (length text - 1) last inside in
    let shown : IsPrintable last = subst IsPrintable (sym c.index-text-text.is) (b.0, b.1.0) in
    rw c.print_narrow_text.ensures
    (kept_text text c.screen.inside.attrs c.screen.inside.grid c.screen.inside.last
    last _ c.requires.narrow shown (search (rules, attrs_fit)) c.screen.invariant)

pub returns : goal.returns
returns c =
    let s = the_view c.screen.inside in
    let text = c.args.text.now in
    let last = c.index-text-text.result in
    let inside : length text - 1 < length text = omega arith in
    let is : last ≡ get_or text (length text - 1) 0 =
    c.index-text-text.is ∙ get_or_default text (length text - 1) last 0 inside in
    (λ z. record s { page = c.print_narrow_text.ensures z; last = Some (is z) })
    ∙ (sym (text_stepped_is text s c.requires.nonempty c.requires.narrow c.screen.invariant.sound.has_columns)
    ∙ ap (screen_after_text text) c.screen.view_is)
