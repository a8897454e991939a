use Rattle.std.proofs.Common.{rules, ◌≡◌, ℕ, false, List, [], ◌++◌, string_bytes, ap, sym, subst, ◌∙◌}
use Rattle.vt_screen.specs.Contents.{contents_of, lines_of, without_line_ends}
use Rattle.vt_screen.specs.MadeOf.{IsMadeOf, plain_controls}
use Rattle.vt_screen.specs.Screen.{IsScreen, visible_rows}
use Rattle.vt_screen.proofs.MadeContents.{contents_made}
use Rattle.vt_screen.proofs.screen.Screen.contents.Goals as goal

pub returns-in-Ok-clause-controls : goal.returns-in-Ok-clause-controls
returns-in-Ok-clause-controls c =
    let screen = c.args.self.now in
    let whole : IsScreen screen = search rules in
    let lines = lines_of screen.page.width false (visible_rows screen) in
    let wrote : string_bytes c.write_lines.new.sink ≡ lines =
    c.in-Ok.ensures ∙ ap (λ (before : List ℕ). before ++ lines) c.new-text.ensures.bytes in
    let told : string_bytes c.drop_line_ends.new.text ≡ contents_of screen =
    c.drop_line_ends.ensures ∙ ap without_line_ends wrote in
    subst (IsMadeOf [] plain_controls) (sym told) (contents_made screen whole)
