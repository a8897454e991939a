use Rattle.std.proofs.Common.{◌∙◌, ◌+◌, [], drop, refl, rules, sym, ap}
use Rattle.vt_cells.proofs.Sinks.{on_err}
use Rattle.vt_cells.specs.Cell.{attrs_of, is_blank}
use Rattle.vt_cells.specs.Op.{bytes_of_all}
use Rattle.vt_cells.specs.Internals.{buffered_text}
use Rattle.vt_redraw.specs.Script.{erase_run, pen_in, placed_op, wrapped_after_erasure}
use Rattle.vt_redraw.proofs.CellSteps.{next_run, run_some}
use Rattle.vt_redraw.proofs.WriterSteps.{buffer_some, start_some}
use Rattle.vt_redraw.proofs.cells.write_next.Goals as goal

pub returns : goal.returns
returns g c =
    let text = g.S.Sink.text in
    let blank = ap is_blank (sym c.requires.cell) ∙ (sym c.is_blank.ensures ∙ c.if-not-is_blank.false) in
    let same = c.attrs-attrs.ensures ∙ ap attrs_of c.requires.cell in
    record {
      leads =
          next_run c.args.pos.row c.args.pos.col c.run-count.result c.args.pen.now c.gather_run.new.pen
          c.args.wrapped.now c.wrapped_after_erasure.result c.args.cells.now.cells c.args.over.now.cells
          c.attrs-attrs.result
          (buffered_text (text c.args.sink.now) c.args.buffer.now)
          (buffered_text (text c.gather_run.new.sink) c.gather_run.new.buffer) c.requires.other.inside c.requires.other.range.inside
          c.requires.other.other blank same c.run-count.ensures.value c.in_ok-gather_run.ensures.gathers.text
          c.in_ok-gather_run.ensures.pen c.wrapped_after_erasure.ensures;
      nonempty =
          run_some c.attrs-attrs.result c.args.cells.now.cells c.args.pos.col c.run-count.result c.requires.other.inside
          blank same c.run-count.ensures.value;
      inside = search rules;
      grows = c.in_ok-gather_run.ensures.gathers.grows;
      refused = search rules;
    }

pub returns-in_err-gather_run : goal.returns-in_err-gather_run
returns-in_err-gather_run g c =
    let row = c.args.pos.row in
    let col = c.args.pos.col in
    let n = c.run-count.result in
    let ys = c.args.over.now.cells in
    let attrs = c.attrs-attrs.result in
    let bytes = bytes_of_all (placed_op c.args.pen.now row col attrs (erase_run c.args.pen.now.form n (drop (col + n) ys))) in
    record {
      leads = search rules;
      nonempty = search rules;
      inside = search rules;
      grows = search rules;
      refused =
          on_err c.from_residual.result
          (buffer_some c.args.buffer.now bytes _
          (start_some bytes _ _
          (next_run row col n c.args.pen.now (pen_in c.args.pen.now.form row col attrs) c.args.wrapped.now
          (wrapped_after_erasure c.args.wrapped.now (drop (col + n) ys)) c.args.cells.now.cells ys attrs [] bytes
          c.requires.other.inside
          c.requires.other.range.inside c.requires.other.other
          (ap is_blank (sym c.requires.cell) ∙ (sym c.is_blank.ensures ∙ c.if-not-is_blank.false))
          (c.attrs-attrs.ensures ∙ ap attrs_of c.requires.cell) c.run-count.ensures.value refl refl refl))
          c.in_err-gather_run.ensures.gathers.nonempty);
    }
