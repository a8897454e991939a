use Rattle.std.proofs.Common.{rules, ◌≡◌, ℕ, List, ◌++◌, string_bytes, ap, subst, ◌∙◌, sym}
use Rattle.vt_cells.specs.Attrs.{Attrs}
use Rattle.vt_cells.specs.Op.{FitsAttrs}
use Rattle.vt_screen.specs.Shown.{SetsAttrs, attributes_text}
use Rattle.vt_screen.proofs.ReadOperations.{attributes_set}
use Rattle.vt_screen.specs.MadeOf.{IsMadeOf, drawing_controls, drawing_finals}
use Rattle.vt_screen.proofs.MadeOf.{attributes_made}
use Rattle.vt_screen.proofs.screen.Screen.attributes_formatted.Goals as goal

pub returns-in-Ok-clause-sets : goal.returns-in-Ok-clause-sets
returns-in-Ok-clause-sets c =
    let attrs = c.attrs.result in
    let fits : FitsAttrs attrs = search rules in
    let told : string_bytes c.write_attrs.new.sink ≡ attributes_text attrs =
    c.in-Ok.ensures.text ∙ ap (λ (before : List ℕ). before ++ attributes_text attrs) c.new-text.ensures.bytes in
    subst (λ (a : Attrs). SetsAttrs a (string_bytes c.write_attrs.new.sink))
    c.attrs.ensures (attributes_set attrs (string_bytes c.write_attrs.new.sink) told fits)

pub returns-in-Ok-clause-controls : goal.returns-in-Ok-clause-controls
returns-in-Ok-clause-controls c =
    let attrs = c.attrs.result in
    let fits : FitsAttrs attrs = search rules in
    let told : string_bytes c.write_attrs.new.sink ≡ attributes_text attrs =
    c.in-Ok.ensures.text ∙ ap (λ (before : List ℕ). before ++ attributes_text attrs) c.new-text.ensures.bytes in
    subst (IsMadeOf drawing_finals drawing_controls) (sym told) (attributes_made attrs fits)
