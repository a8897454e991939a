use Rattle.std.proofs.Common.{rules, ◌≡◌, ◌++◌, List, ℕ, string_bytes, ap, sym, subst, ◌∙◌}
use Rattle.vt_rows.specs.Basic.{nothing_written}
use Rattle.vt_screen.specs.Capture.{basic_texts}
use Rattle.vt_screen.specs.MadeOf.{IsMadeOf, capture_finals, plain_controls}
use Rattle.vt_screen.specs.Screen.{IsScreen, visible_rows}
use Rattle.vt_screen.proofs.MadeCaptures.{capture_is}
use Rattle.vt_screen.proofs.screen.Screen.contents_formatted_basic.Goals as goal

pub returns-in-Ok-clause-controls : goal.returns-in-Ok-clause-controls
returns-in-Ok-clause-controls c =
    let whole : IsScreen c.args.self.now = search rules in
    let text = basic_texts nothing_written (visible_rows c.args.self.now) in
    let told : string_bytes c.write_contents_formatted_basic.new.sink ≡ text =
    c.in-Ok.ensures.text ∙ ap (λ (before : List ℕ). before ++ text) c.new-text.ensures.bytes in
    subst (IsMadeOf capture_finals plain_controls) (sym told) (capture_is c.args.self.now whole)
