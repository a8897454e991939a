use Rattle.std.proofs.Common.{◌++◌, ◌∙◌, [], refl, List, ℕ, sym, ap, ap₂, append-nil, append_assoc, arith}
use Rattle.vt_cells.specs.Attrs.{Attrs}
use Rattle.vt_cells.proofs.Sinks.{on_err, some_among, stopped_among, stopped_first}
use Rattle.vt_cells.specs.Internals.{buffered_text}
use Rattle.vt_rows.specs.Basic.{attrs_after, attrs_after_all, cells_text}
use Rattle.vt_rows.specs.Internals.{cell_text}
use Rattle.vt_packed.specs.Items.{Item, cells_of, first_cell}
use Rattle.vt_packed.proofs.Written.{item_attrs_after, item_text}
use Rattle.vt_packed.proofs.basic.write_item_texts.Goals as goal

pub returns-in_err-add_item-clause-stopped : goal.returns-in_err-add_item-clause-stopped
returns-in_err-add_item-clause-stopped g c =
    let item = c.in-Some.item in
    let rest = cells_of c.next.new.self in
    let attrs = c.loop-item.last in
    let wrote = buffered_text (g.S.Sink.text c.loop-item.sink) c.loop-item.buffer in
    let all = ap (λ (xs : List ℕ). wrote ++ xs) (sym (item_text item attrs rest))
    ∙ (ap (λ (items : List Item). wrote ++ cells_text attrs (cells_of items)) (sym c.in-Some.ensures)
    ∙ c.loop-item.invariant.bytes) in
    on_err c.from_residual.result
    (stopped_among g.S.Sink.refuses (g.S.Sink.text c.args.sink.now) (g.S.Sink.text c.loop-item.sink) c.loop-item.buffer
    (cell_text attrs (first_cell item)) (cells_text (attrs_after attrs (first_cell item)) rest)
    (cells_text c.args.attrs (cells_of c.args.items.now)) (g.S.Sink.text c.add_item.new.sink) all
    c.loop-item.invariant.grows c.in_err-add_item.ensures.stopped)

pub returns-in_err-add_item-clause-nonempty : goal.returns-in_err-add_item-clause-nonempty
returns-in_err-add_item-clause-nonempty g c =
    let item = c.in-Some.item in
    let rest = cells_of c.next.new.self in
    let attrs = c.loop-item.last in
    let wrote = buffered_text (g.S.Sink.text c.loop-item.sink) c.loop-item.buffer in
    let all = ap (λ (xs : List ℕ). wrote ++ xs) (sym (item_text item attrs rest))
    ∙ (ap (λ (items : List Item). wrote ++ cells_text attrs (cells_of items)) (sym c.in-Some.ensures)
    ∙ c.loop-item.invariant.bytes) in
    let some = c.in_err-add_item.ensures.nonempty in
    on_err c.from_residual.result
    (some_among (g.S.Sink.text c.args.sink.now) (g.S.Sink.text c.loop-item.sink) c.loop-item.buffer
    (cell_text attrs (first_cell item)) (cells_text (attrs_after attrs (first_cell item)) rest)
    (cells_text c.args.attrs (cells_of c.args.items.now)) all c.loop-item.invariant.grows (omega arith))

pub loop-item-preserved : goal.loop-item-preserved
loop-item-preserved g c =
    let item = c.in-Some.item in
    let rest = cells_of c.next.new.self in
    let attrs = c.loop-item.last in
    let wrote = buffered_text (g.S.Sink.text c.loop-item.sink) c.loop-item.buffer in
    let added = c.in_ok-add_item.ensures.added in
    record {
      bytes =
          ap₂ (λ (xs : List ℕ) (after : Attrs). xs ++ cells_text after rest) added.bytes c.in_ok-add_item.ensures.attrs
          ∙ (append_assoc wrote (cell_text attrs (first_cell item)) (cells_text (attrs_after attrs (first_cell item)) rest)
          ∙ (ap (λ (xs : List ℕ). wrote ++ xs) (sym (item_text item attrs rest))
          ∙ (ap (λ (items : List Item). wrote ++ cells_text attrs (cells_of items)) (sym c.in-Some.ensures)
          ∙ c.loop-item.invariant.bytes)));
      grows = omega (arith, c.loop-item.invariant.grows, added.grows);
      ends =
          ap (λ (after : Attrs). attrs_after_all after rest) c.in_ok-add_item.ensures.attrs
          ∙ (sym (item_attrs_after item attrs rest)
          ∙ (ap (λ (items : List Item). attrs_after_all attrs (cells_of items)) (sym c.in-Some.ensures)
          ∙ c.loop-item.invariant.ends));
    }

pub returns-in_err-flush-clause-stopped : goal.returns-in_err-flush-clause-stopped
returns-in_err-flush-clause-stopped g c =
    let mid = g.S.Sink.text c.loop-item.sink in
    let after = g.S.Sink.text c.flush.new.sink in
    on_err c.from_residual-in_err-flush.result
    (stopped_among g.S.Sink.refuses (g.S.Sink.text c.args.sink.now) mid c.loop-item.buffer []
    (cells_text c.loop-item.last (cells_of c.loop-item.items))
    (cells_text c.args.attrs (cells_of c.args.items.now)) after c.loop-item.invariant.bytes c.loop-item.invariant.grows
    (stopped_first g.S.Sink.refuses mid c.loop-item.buffer [] after (c.in_err-flush.ensures.nonempty refl) c.in_err-flush.ensures.err))

pub returns-in_err-flush-clause-nonempty : goal.returns-in_err-flush-clause-nonempty
returns-in_err-flush-clause-nonempty g c =
    let some = c.in_err-flush.ensures.nonempty refl in
    on_err c.from_residual-in_err-flush.result
    (some_among (g.S.Sink.text c.args.sink.now) (g.S.Sink.text c.loop-item.sink) c.loop-item.buffer []
    (cells_text c.loop-item.last (cells_of c.loop-item.items))
    (cells_text c.args.attrs (cells_of c.args.items.now)) c.loop-item.invariant.bytes c.loop-item.invariant.grows
    (omega arith))

pub returns-clause-text : goal.returns-clause-text
returns-clause-text g c =
    let wrote = buffered_text (g.S.Sink.text c.loop-item.sink) c.loop-item.buffer in
    c.in_ok-flush.ensures.text
    ∙ (sym (append-nil wrote)
    ∙ (ap (λ (items : List Item). wrote ++ cells_text c.loop-item.last (cells_of items)) (sym c.in_default.ensures)
    ∙ c.loop-item.invariant.bytes))

pub returns-clause-attrs : goal.returns-clause-attrs
returns-clause-attrs g c =
    ap (λ (items : List Item). attrs_after_all c.loop-item.last (cells_of items)) (sym c.in_default.ensures)
    ∙ c.loop-item.invariant.ends
