use Rattle.std.proofs.Common.{◌++◌, ◌∙◌, List, ℕ, ap, append_assoc, sym}
use Rattle.vt_cells.specs.Attrs.{default_attrs, Attrs}
use Rattle.vt_redraw.specs.declared.form.Form.TheVariants.{Portable}
use Rattle.vt_cells.specs.Op.{ClearAttrs, bytes_of, change_text}
use Rattle.vt_redraw.proofs.Writing.{kept_written, reset_written}
use Rattle.vt_redraw.proofs.pen.push_portable_change.Goals as goal

pub returns-then-resets-clause-text : goal.returns-then-resets-clause-text
returns-then-resets-clause-text c =
    let old = c.args.buffer.now in
    let new = c.args.new in
    c.push-then-resets.ensures.value
    ∙ (ap (λ (b : List ℕ). b ++ change_text c.new.result new) c.push.ensures
    ∙ (ap (λ (a : Attrs). (old ++ bytes_of ClearAttrs) ++ change_text a new) c.new.ensures
    ∙ (append_assoc old (bytes_of ClearAttrs) (change_text default_attrs new)
    ∙ ap (λ (b : List ℕ). old ++ b)
    (reset_written Portable c.args.was new (sym c.resets.ensures ∙ c.if-resets.true)))))

pub returns-clause-text : goal.returns-clause-text
returns-clause-text c =
    let old = c.args.buffer.now in
    c.push-2.ensures.value
    ∙ ap (λ (b : List ℕ). old ++ b)
    (kept_written Portable c.args.was c.args.new (sym c.resets.ensures ∙ c.if-resets.false))
