use Rattle.std.proofs.Common.{◌≡◌, ℕ, List, ◌++◌, string_bytes, ap, ◌∙◌, sym, subst, []}
use Rattle.vt_screen.specs.States.{input_text}
use Rattle.vt_screen.proofs.ReadStates.{modes_set}
use Rattle.vt_screen.specs.MadeOf.{IsMadeOf, input_controls}
use Rattle.vt_screen.proofs.MadeOf.{input_made}
use Rattle.vt_screen.proofs.screen.Screen.input_mode_formatted.Goals as goal

pub returns-in-Ok-clause-sets : goal.returns-in-Ok-clause-sets
returns-in-Ok-clause-sets c =
    let bytes = input_text c.args.self.now.modes in
    let told : string_bytes c.write_input_mode_formatted.new.sink ≡ bytes =
    c.in-Ok.ensures ∙ ap (λ (before : List ℕ). before ++ bytes) c.new-text.ensures.bytes in
    modes_set c.args.self.now.modes (string_bytes c.write_input_mode_formatted.new.sink) told

pub returns-in-Ok-clause-controls : goal.returns-in-Ok-clause-controls
returns-in-Ok-clause-controls c =
    let bytes = input_text c.args.self.now.modes in
    let told : string_bytes c.write_input_mode_formatted.new.sink ≡ bytes =
    c.in-Ok.ensures ∙ ap (λ (before : List ℕ). before ++ bytes) c.new-text.ensures.bytes in
    subst (IsMadeOf [] input_controls) (sym told)
    (input_made c.args.self.now.modes)
