use Rattle.std.proofs.Common.{◌≡◌, ◌+◌, ◌∙◌, [], ap, arith, drop, refl, rules}
use Rattle.vt_cells.proofs.Sinks.{on_err}
use Rattle.vt_cells.specs.Internals.{buffered_text}
use Rattle.vt_cells.specs.Cell.{attrs_of, is_blank, is_glyph, is_wide, text_of}
use Rattle.vt_cells.specs.Glyph.{glyph_columns}
use Rattle.vt_cells.specs.Op.{Print, bytes_of_all}
use Rattle.vt_redraw.specs.Script.{pen_past, placed_op, wrapped_after_glyph}
use Rattle.vt_redraw.proofs.Writing.{alike_settles, other_glyph, some_columns}
use Rattle.vt_redraw.proofs.CellSteps.{glyph_leads}
use Rattle.vt_redraw.proofs.WriterSteps.{buffer_some, start_some}
use Rattle.vt_redraw.proofs.cells.gather_long.Goals as goal

pub returns-in_err-gather_glyph : goal.returns-in_err-gather_glyph
returns-in_err-gather_glyph g c =
    let row = c.args.pos.row in
    let col = c.args.pos.col in
    let x = c.cell-cell.result.now in
    let n = glyph_columns (is_wide x) in
    let ys = c.args.over.now.cells in
    let bytes = bytes_of_all (placed_op c.args.pen.now row col (attrs_of x) (Print (text_of x))) in
    record {
      leads = search rules;
      nonempty = search rules;
      inside = search rules;
      grows = search rules;
      refused =
          on_err c.from_residual.result
          (buffer_some c.args.buffer.now bytes _
          (start_some bytes _ _
          (glyph_leads row col n c.args.pen.now (pen_past c.args.pen.now.form row (col + n) (attrs_of x) (text_of x))
          c.args.wrapped.now (wrapped_after_glyph c.args.wrapped.now (is_wide x) (drop (col + n) ys))
          c.args.cells.now.cells ys x []
          bytes c.cell-cell.ensures c.requires.other.inside c.requires.other.range.inside c.requires.other.other
          (ap is_blank c.cell-cell.ensures ∙ c.requires.glyph) refl refl refl refl))
          c.in_err-gather_glyph.ensures.gathers.nonempty);
    }

pub gather_more-requires-clause-glyph : goal.gather_more-requires-clause-glyph
gather_more-requires-clause-glyph g c =
    ap is_glyph c.cell-cell.ensures ∙ other_glyph _ _ c.requires.glyph c.requires.other.other

pub returns : goal.returns
returns g c =
    let text = g.S.Sink.text in
    let row = c.args.pos.row in
    let col = c.args.pos.col in
    let x = c.cell-cell.result.now in
    let n = glyph_columns (is_wide x) in
    let xs = c.args.cells.now.cells in
    let ys = c.args.over.now.cells in
    let pen = c.gather_glyph.new.pen in
    let pens = c.in_ok-gather_glyph.ensures.pen in
    let columns : pen.col ≡ col + n = ap (λ p. p.col) pens in
    let order = c.gather_more.ensures.order in
    let inside = c.gather_more.ensures.inside in
    let some = some_columns (is_wide x) in
    let wrapped = c.wrapped_after_glyph.result in
    let flags : wrapped ≡ wrapped_after_glyph c.args.wrapped.now (is_wide x) (drop (col + n) ys) =
    c.wrapped_after_glyph.ensures
    ∙ (ap (λ w. wrapped_after_glyph c.args.wrapped.now w (drop pen.col ys)) c.is_wide.ensures
    ∙ ap (λ k. wrapped_after_glyph c.args.wrapped.now (is_wide x) (drop k ys)) columns) in
    record {
      leads =
          alike_settles row col n _ _ c.gather_more.new.pen.col pen c.gather_more.new.pen wrapped
          c.gather_more.new.wrapped xs ys _ _ _ _
          (glyph_leads row col n c.args.pen.now pen c.args.wrapped.now wrapped xs ys x
          (buffered_text (text c.args.sink.now) c.args.buffer.now)
          (buffered_text (text c.gather_glyph.new.sink) c.gather_glyph.new.buffer) c.cell-cell.ensures
          c.requires.other.inside c.requires.other.range.inside c.requires.other.other
          (ap is_blank c.cell-cell.ensures ∙ c.requires.glyph) refl c.in_ok-gather_glyph.ensures.gathers.text pens flags)
          (c.gather_more.ensures.leads (text c.gather_glyph.new.sink)) (ap (λ p. p.row) pens) columns order;
      nonempty = omega (arith, columns, order, some);
      inside = omega (arith, columns, order, inside);
      grows = c.in_ok-gather_glyph.ensures.gathers.grows;
      refused = search rules;
    }
