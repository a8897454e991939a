use Rattle.std.proofs.Common.{◌++◌, ◌∙◌, ap, sym, subst, length, List, false, arith}
use Rattle.std.proofs.lemmas.Result.{on_ok_weaker}
use Rattle.std.proofs.lemmas.List.{length-replicate}
use Rattle.vt_cells.specs.Attrs.{default_attrs, Attrs}
use Rattle.vt_cells.specs.Cell.{CellValue, default_blank}
use Rattle.vt_cells.specs.Op.{bytes_of_all}
use Rattle.vt_rows.specs.Cells.{blanks}
use Rattle.vt_rows.specs.Row.{RowValue}
use Rattle.vt_redraw.specs.Items.{range_written}
use Rattle.vt_redraw.specs.Internals.{IsRange}
use Rattle.vt_redraw.specs.Script.{Scripted, pen_at}
use Rattle.vt_redraw.proofs.WriterSteps.{range_taken, range_wrote}
use Rattle.std.proofs.Common.{◌<◌}
use Rattle.std.proofs.lemmas.Result.{on_err_weaker}
use Rattle.vt_redraw.proofs.items.write_over_blanks.Goals as goal

pub write_range-requires : goal.write_range-requires
write_range-requires g c =
    let xs = c.args.cells.now.cells in
    let size =
    ap (λ (z : RowValue). length z.cells) c.blank-over.ensures ∙ length-replicate c.cols.result default_blank in
    let cols = c.cols.ensures in
    record {
      range =
          subst (λ (z : List CellValue). IsRange z c.blank-over.result.cells) (sym c.up_to.ensures.cells)
          (range_taken xs c.blank-over.result.cells c.args.stop (omega arith) c.requires.paired);
    }

pub returns : goal.returns
returns g c =
    let text = g.S.Sink.text in
    let xs = c.args.cells.now.cells in
    let r = c.args.pos.row in
    let start = c.args.pos.col in
    let stop = c.args.stop in
    let over = ap (λ (z : RowValue). z.cells) c.blank-over.ensures ∙ ap (blanks default_attrs) c.cols.ensures in
    let range =
    range_wrote r start stop (pen_at r start c.new.result) false c.up_to.result.cells xs c.blank-over.result.cells
    c.requires.order c.up_to.ensures.cells (ap (λ (a : Attrs). pen_at r start a) c.new.ensures)
    ∙ ap (λ (zs : List CellValue). range_written r start stop false xs zs) over in
    record {
      text =
          on_ok_weaker c.write_range.result
          (λ more. more.bytes ∙ ap (λ (w : Scripted). text c.args.sink.now ++ bytes_of_all w.ops) range)
          c.write_range.ensures.writes;
      nonempty =
          on_err_weaker c.write_range.result (subst (λ (w : Scripted). 0 < length (bytes_of_all w.ops)) range)
          c.write_range.ensures.nonempty;
    }
