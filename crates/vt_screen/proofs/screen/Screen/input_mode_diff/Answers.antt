use Rattle.std.proofs.Common.{◌≡◌, ℕ, List, ◌++◌, string_bytes, ap, sym, ◌∙◌, subst, []}
use Rattle.vt_screen.specs.States.{input_change}
use Rattle.vt_screen.proofs.ReadStates.{change_none, change_tells, modes_changed}
use Rattle.vt_screen.proofs.MadeContents.{none_refused}
use Rattle.vt_screen.specs.MadeOf.{IsMadeOf, input_controls}
use Rattle.vt_screen.proofs.MadeOf.{input_change_made}
use Rattle.vt_screen.proofs.screen.Screen.input_mode_diff.Goals as goal

pub returns-in-Ok-clause-sets : goal.returns-in-Ok-clause-sets
returns-in-Ok-clause-sets c =
    let bytes = input_change c.args.prev.now.modes c.args.self.now.modes in
    let told : string_bytes c.write_input_mode_diff.new.sink ≡ bytes =
    c.in-Ok.ensures.text ∙ ap (λ (before : List ℕ). before ++ bytes) c.new-text.ensures.bytes in
    modes_changed c.args.prev.now.modes c.args.self.now.modes (string_bytes c.write_input_mode_diff.new.sink) told

pub returns-in-Ok-clause-empty : goal.returns-in-Ok-clause-empty
returns-in-Ok-clause-empty c empty =
    let bytes = input_change c.args.prev.now.modes c.args.self.now.modes in
    let told : string_bytes c.write_input_mode_diff.new.sink ≡ bytes =
    c.in-Ok.ensures.text ∙ ap (λ (before : List ℕ). before ++ bytes) c.new-text.ensures.bytes in
    change_tells c.args.prev.now.modes c.args.self.now.modes (sym told ∙ empty)

pub returns-in-Ok-clause-none : goal.returns-in-Ok-clause-none
returns-in-Ok-clause-none c same =
    let bytes = input_change c.args.prev.now.modes c.args.self.now.modes in
    let told : string_bytes c.write_input_mode_diff.new.sink ≡ bytes =
    c.in-Ok.ensures.text ∙ ap (λ (before : List ℕ). before ++ bytes) c.new-text.ensures.bytes in
    told ∙ change_none c.args.prev.now.modes c.args.self.now.modes same

pub returns-in-Err-clause-never : goal.returns-in-Err-clause-never
returns-in-Err-clause-never c same =
    absurd (none_refused _ (change_none c.args.prev.now.modes c.args.self.now.modes same) c.in-Err.ensures.nonempty)

pub returns-in-Ok-clause-controls : goal.returns-in-Ok-clause-controls
returns-in-Ok-clause-controls c =
    let bytes = input_change c.args.prev.now.modes c.args.self.now.modes in
    let told : string_bytes c.write_input_mode_diff.new.sink ≡ bytes =
    c.in-Ok.ensures.text ∙ ap (λ (before : List ℕ). before ++ bytes) c.new-text.ensures.bytes in
    subst (IsMadeOf [] input_controls) (sym told)
    (input_change_made c.args.prev.now.modes c.args.self.now.modes)
