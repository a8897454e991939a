use Rattle.std.proofs.Common.{◌++◌, ◌∷◌, ◌∙◌, [], refl, List, ℕ, suc, drop, sym, ap, arith}
use Rattle.std.proofs.Math.Seq.{drop-cons}
use Rattle.vt_cells.proofs.Sinks.{on_err, some_among, stopped_among, stopped_first}
use Rattle.vt_cells.specs.Internals.{buffered_text}
use Rattle.vt_rows.specs.Basic.{attrs_after, cells_text}
use Rattle.vt_rows.specs.Internals.{cell_text}
use Rattle.vt_rows.proofs.RowTexts.{one_first}
use Rattle.vt_rows.proofs.capture.basic.write_cells.Goals as goal

pub returns-in_err-add_cell-clause-stopped : goal.returns-in_err-add_cell-clause-stopped
returns-in_err-add_cell-clause-stopped g c =
    let cells = c.args.cells.now in
    let at = c.loop-cell.cell-index in
    let cell = c.cell-item.result in
    let rest = drop (suc at) cells in
    let attrs = c.loop-cell.last in
    let left = drop-cons cells at cell c.loop-cell-test.true ∙ ap (λ x. x ∷ rest) (sym c.cell-item.is) in
    let wrote = buffered_text (g.S.Sink.text c.loop-cell.sink) c.loop-cell.buffer in
    let all = ap (λ (xs : List ℕ). wrote ++ xs) (sym (one_first attrs (drop at cells) rest cell left))
    ∙ c.loop-cell.invariant.bytes in
    on_err c.from_residual.result
    (stopped_among g.S.Sink.refuses (g.S.Sink.text c.args.sink.now) (g.S.Sink.text c.loop-cell.sink) c.loop-cell.buffer
    (cell_text attrs cell) (cells_text (attrs_after attrs cell) rest)
    (cells_text c.args.attrs cells) (g.S.Sink.text c.add_cell.new.sink) all c.loop-cell.invariant.grows
    c.in_err-add_cell.ensures.stopped)

pub returns-in_err-add_cell-clause-nonempty : goal.returns-in_err-add_cell-clause-nonempty
returns-in_err-add_cell-clause-nonempty g c =
    let cells = c.args.cells.now in
    let at = c.loop-cell.cell-index in
    let cell = c.cell-item.result in
    let rest = drop (suc at) cells in
    let attrs = c.loop-cell.last in
    let left = drop-cons cells at cell c.loop-cell-test.true ∙ ap (λ x. x ∷ rest) (sym c.cell-item.is) in
    let wrote = buffered_text (g.S.Sink.text c.loop-cell.sink) c.loop-cell.buffer in
    let all = ap (λ (xs : List ℕ). wrote ++ xs) (sym (one_first attrs (drop at cells) rest cell left))
    ∙ c.loop-cell.invariant.bytes in
    let some = c.in_err-add_cell.ensures.nonempty in
    on_err c.from_residual.result
    (some_among (g.S.Sink.text c.args.sink.now) (g.S.Sink.text c.loop-cell.sink) c.loop-cell.buffer
    (cell_text attrs cell) (cells_text (attrs_after attrs cell) rest)
    (cells_text c.args.attrs cells) all c.loop-cell.invariant.grows (omega arith))

pub returns-in_err-flush-clause-stopped : goal.returns-in_err-flush-clause-stopped
returns-in_err-flush-clause-stopped g c =
    let mid = g.S.Sink.text c.loop-cell.sink in
    let after = g.S.Sink.text c.flush.new.sink in
    on_err c.from_residual-in_err-flush.result
    (stopped_among g.S.Sink.refuses (g.S.Sink.text c.args.sink.now) mid c.loop-cell.buffer []
    (cells_text c.loop-cell.last (drop c.loop-cell.cell-index c.args.cells.now))
    (cells_text c.args.attrs c.args.cells.now) after c.loop-cell.invariant.bytes c.loop-cell.invariant.grows
    (stopped_first g.S.Sink.refuses mid c.loop-cell.buffer [] after (c.in_err-flush.ensures.nonempty refl) c.in_err-flush.ensures.err))

pub returns-in_err-flush-clause-nonempty : goal.returns-in_err-flush-clause-nonempty
returns-in_err-flush-clause-nonempty g c =
    let some = c.in_err-flush.ensures.nonempty refl in
    on_err c.from_residual-in_err-flush.result
    (some_among (g.S.Sink.text c.args.sink.now) (g.S.Sink.text c.loop-cell.sink) c.loop-cell.buffer []
    (cells_text c.loop-cell.last (drop c.loop-cell.cell-index c.args.cells.now))
    (cells_text c.args.attrs c.args.cells.now) c.loop-cell.invariant.bytes c.loop-cell.invariant.grows
    (omega arith))
