use Rattle.std.proofs.Common.{◌≡◌, ◌+◌, ◌<◌, ◌++◌, ◌∷◌, ◌∙◌, [], List, ℕ, ap, ap₂, append_assoc, arith, length, subst, sym}
use Rattle.std.specs.Prelude.{if◌then◌else◌}
use Rattle.std.proofs.lemmas.List.{length-append}
use Rattle.vt_cells.specs.Cell.{CellValue}
use Rattle.vt_cells.specs.Sinks.{IsStopped}
use Rattle.vt_cells.proofs.Sinks.{on_err, stopped_after, stopped_before}
use Rattle.vt_rows.specs.Basic.{attrs_after_all, cells_text}
use Rattle.vt_rows.specs.Row.{RowValue, cells_without_end}
use Rattle.vt_packed.specs.Items.{cells_of}
use Rattle.vt_packed.specs.Packed.{items_from, styles_of}
use Rattle.vt_packed.proofs.Written.{trimmed_padded}
use Rattle.vt_packed.proofs.row.PackedRow.write_basic.Goals as goal

pub returns-in_err-write_line_end-clause-stopped : goal.returns-in_err-write_line_end-clause-stopped
returns-in_err-write_line_end-clause-stopped g c =
    on_err c.from_residual.result
    (stopped_before g.S.Sink.refuses (g.S.Sink.text c.args.sink.now) [] (if c.args.is_due then 0x0A ∷ [] else [])
    (cells_text c.args.attrs (cells_without_end c.args.self.now.cells)) (g.S.Sink.text c.write_line_end.new.sink)
    c.in_err-write_line_end.ensures.stopped)

pub returns-in_err-last-clause-stopped : goal.returns-in_err-last-clause-stopped
returns-in_err-last-clause-stopped g c =
    let row = c.self.inside in
    let items = items_from (styles_of row.runs.items) row.text.items in
    let mid = g.S.Sink.text c.write_line_end.new.sink in
    let after = g.S.Sink.text c.write_item_texts.new.sink in
    let line = if c.args.is_due then 0x0A ∷ [] else [] in
    let own : c.items_of.result ≡ items = c.items_of.ensures
    ∙ ap₂ (λ runs text. items_from (styles_of runs) text) c.deref.ensures.value c.deref-2.ensures.value in
    let kept : cells_of c.items_of.result ≡ cells_without_end c.args.self.now.cells = ap cells_of own
    ∙ (sym (trimmed_padded row.cols (cells_of items) c.self.invariant.ends)
    ∙ ap (λ (r : RowValue). cells_without_end r.cells) c.self.view_is) in
    on_err c.from_residual-in_err-last.result
    (stopped_after g.S.Sink.refuses (g.S.Sink.text c.args.sink.now) mid line
    (cells_text c.args.attrs (cells_without_end c.args.self.now.cells)) after c.in_ok-write_line_end.ensures.text
    (subst (λ (xs : List CellValue). IsStopped g.S.Sink.refuses mid (cells_text c.args.attrs xs) after) kept
    c.in_err-last.ensures.stopped))

pub returns-in_err-last-clause-nonempty : goal.returns-in_err-last-clause-nonempty
returns-in_err-last-clause-nonempty g c =
    let row = c.self.inside in
    let items = items_from (styles_of row.runs.items) row.text.items in
    let line : List ℕ = if c.args.is_due then 0x0A ∷ [] else [] in
    let own : c.items_of.result ≡ items = c.items_of.ensures
    ∙ ap₂ (λ runs text. items_from (styles_of runs) text) c.deref.ensures.value c.deref-2.ensures.value in
    let kept : cells_of c.items_of.result ≡ cells_without_end c.args.self.now.cells = ap cells_of own
    ∙ (sym (trimmed_padded row.cols (cells_of items) c.self.invariant.ends)
    ∙ ap (λ (r : RowValue). cells_without_end r.cells) c.self.view_is) in
    let some : 0 < length (cells_text c.args.attrs (cells_without_end c.args.self.now.cells)) =
    subst (λ (xs : List CellValue). 0 < length (cells_text c.args.attrs xs)) kept c.in_err-last.ensures.nonempty in
    let sum = length-append line (cells_text c.args.attrs (cells_without_end c.args.self.now.cells)) in
    on_err c.from_residual-in_err-last.result (omega (arith, some, sum))

pub returns-clause-ok : goal.returns-clause-ok
returns-clause-ok g c =
    let row = c.self.inside in
    let items = items_from (styles_of row.runs.items) row.text.items in
    let old = g.S.Sink.text c.args.sink.now in
    let line : List ℕ = if c.args.is_due then 0x0A ∷ [] else [] in
    let own : c.items_of.result ≡ items = c.items_of.ensures
    ∙ ap₂ (λ runs text. items_from (styles_of runs) text) c.deref.ensures.value c.deref-2.ensures.value in
    let kept : cells_of c.items_of.result ≡ cells_without_end c.args.self.now.cells = ap cells_of own
    ∙ (sym (trimmed_padded row.cols (cells_of items) c.self.invariant.ends)
    ∙ ap (λ (r : RowValue). cells_without_end r.cells) c.self.view_is) in
    c.in_ok-last.ensures.text
    ∙ (ap₂ (λ (mid : List ℕ) (xs : List CellValue). mid ++ cells_text c.args.attrs xs) c.in_ok-write_line_end.ensures.text kept
    ∙ append_assoc old line (cells_text c.args.attrs (cells_without_end c.args.self.now.cells)))

pub returns-clause-attrs : goal.returns-clause-attrs
returns-clause-attrs g c =
    let row = c.self.inside in
    let items = items_from (styles_of row.runs.items) row.text.items in
    let own : c.items_of.result ≡ items = c.items_of.ensures
    ∙ ap₂ (λ runs text. items_from (styles_of runs) text) c.deref.ensures.value c.deref-2.ensures.value in
    let kept : cells_of c.items_of.result ≡ cells_without_end c.args.self.now.cells = ap cells_of own
    ∙ (sym (trimmed_padded row.cols (cells_of items) c.self.invariant.ends)
    ∙ ap (λ (r : RowValue). cells_without_end r.cells) c.self.view_is) in
    c.in_ok-last.ensures.attrs ∙ ap (attrs_after_all c.args.attrs) kept
