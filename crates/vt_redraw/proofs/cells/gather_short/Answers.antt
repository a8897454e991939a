use Rattle.std.proofs.Common.{◌≡◌, ◌+◌, ◌∙◌, [], ap, arith, drop, refl, rules, sym}
use Rattle.vt_cells.proofs.Sinks.{on_err}
use Rattle.vt_cells.specs.Internals.{buffered_text}
use Rattle.vt_cells.specs.Cell.{attrs_of, is_wide, text_of}
use Rattle.vt_cells.specs.Glyph.{glyph_columns}
use Rattle.vt_cells.specs.Op.{Print, bytes_of_all}
use Rattle.vt_redraw.specs.Script.{pen_in, pen_past, placed_op, wrapped_after_glyph}
use Rattle.vt_redraw.proofs.Writing.{alike_settles, narrow_keeps, short_past}
use Rattle.vt_redraw.proofs.CellSteps.{glyph_leads}
use Rattle.vt_redraw.proofs.WriterSteps.{buffer_some, start_some}
use Rattle.vt_redraw.proofs.cells.gather_short.Goals as goal

pub returns-in_err-gather_byte : goal.returns-in_err-gather_byte
returns-in_err-gather_byte g c =
    let row = c.args.pos.row in
    let col = c.args.pos.col in
    let x = c.args.cell.now in
    let n = glyph_columns (is_wide x) in
    let ys = c.args.over.now.cells in
    let bytes = bytes_of_all (placed_op c.args.pen.now row col (attrs_of x) (Print (text_of x))) in
    record {
      leads = search rules;
      nonempty = search rules;
      inside = search rules;
      grows = search rules;
      refused =
          on_err c.from_residual.result
          (buffer_some c.args.buffer.now bytes _
          (start_some bytes _ _
          (glyph_leads row col n c.args.pen.now (pen_past c.args.pen.now.form row (col + n) (attrs_of x) (text_of x))
          c.args.wrapped (wrapped_after_glyph c.args.wrapped (is_wide x) (drop (col + n) ys))
          c.args.cells.now.cells ys x []
          bytes c.requires.cell c.requires.other.inside c.requires.other.range.inside c.requires.other.other
          c.requires.glyph refl refl refl refl))
          c.in_err-gather_byte.ensures.gathers.nonempty);
    }

pub returns : goal.returns
returns g c =
    let text = g.S.Sink.text in
    let row = c.args.pos.row in
    let col = c.args.pos.col in
    let x = c.args.cell.now in
    let xs = c.args.cells.now.cells in
    let ys = c.args.over.now.cells in
    let pen = c.gather_byte.new.pen in
    let pens = c.in_ok-gather_byte.ensures.pen in
    let columns : pen.col ≡ col + 1 = ap (λ p. p.col) pens in
    let order = c.gather_alike.ensures.order in
    let inside = c.gather_alike.ensures.inside in
    let wrapped = c.args.wrapped in
    let narrow = c.requires.narrow in
    let count : 1 ≡ glyph_columns (is_wide x) = ap glyph_columns (sym narrow) in
    let flags = narrow_keeps wrapped (is_wide x) (drop (col + 1) ys) narrow in
    record {
      leads =
          alike_settles row col 1 _ _ c.gather_alike.new.pen.col pen c.gather_alike.new.pen wrapped
          wrapped xs ys _ _ _ _
          (glyph_leads row col 1 c.args.pen.now pen wrapped wrapped xs ys x
          (buffered_text (text c.args.sink.now) c.args.buffer.now)
          (buffered_text (text c.gather_byte.new.sink) c.gather_byte.new.buffer) c.requires.cell
          c.requires.other.inside c.requires.other.range.inside c.requires.other.other
          c.requires.glyph count c.in_ok-gather_byte.ensures.gathers.text
          (pens
          ∙ (ap (λ k. pen_in c.args.pen.now.form row (col + k) (attrs_of x)) count
          ∙ sym (short_past c.args.pen.now.form row (col + glyph_columns (is_wide x)) (attrs_of x) (text_of x)
          c.requires.one)))
          flags)
          (c.gather_alike.ensures.leads (text c.gather_byte.new.sink)) (ap (λ p. p.row) pens) columns order;
      nonempty = omega (arith, columns, order);
      inside = omega (arith, columns, order, inside);
      grows = c.in_ok-gather_byte.ensures.gathers.grows;
      refused = search rules;
    }
