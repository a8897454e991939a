use Rattle.std.proofs.Common.{rules, ◌≡◌, ℕ, List, [], ◌++◌, string_bytes, ap, sym, subst, ◌∙◌}
use Rattle.vt_screen.specs.Contents.{between_of}
use Rattle.vt_screen.specs.MadeOf.{IsMadeOf, plain_controls}
use Rattle.vt_screen.specs.Screen.{IsScreen}
use Rattle.vt_screen.proofs.MadeContents.{between_made}
use Rattle.vt_screen.proofs.screen.Screen.contents_between.Goals as goal

pub returns-in-Ok-clause-controls : goal.returns-in-Ok-clause-controls
returns-in-Ok-clause-controls c =
    let screen = c.args.self.now in
    let whole : IsScreen screen = search rules in
    let text = between_of c.args.start_row c.args.start_col c.args.end_row c.args.end_col screen in
    let told : string_bytes c.write_between.new.sink ≡ text =
    c.in-Ok.ensures.text ∙ ap (λ (before : List ℕ). before ++ text) c.new-text.ensures.bytes in
    subst (IsMadeOf [] plain_controls) (sym told)
    (between_made c.args.start_row c.args.start_col c.args.end_row c.args.end_col screen whole)
