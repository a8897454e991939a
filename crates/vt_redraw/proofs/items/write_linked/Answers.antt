use Rattle.std.proofs.Common.{◌≡◌, ℕ, List, ap, ◌∙◌}
use Rattle.std.proofs.lemmas.Result.{on_ok_weaker}
use Rattle.vt_cells.specs.Attrs.{default_attrs, Attrs}
use Rattle.vt_rows.specs.Cells.{blanks}
use Rattle.vt_rows.specs.Row.{RowValue}
use Rattle.vt_redraw.specs.Items.{linked_item}
use Rattle.vt_redraw.specs.Script.{pen_at}
use Rattle.vt_redraw.proofs.WriterSteps.{linked_wrote, text_after_some}
use Rattle.std.proofs.Common.{refl, ◌++◌}
use Rattle.std.proofs.lemmas.Result.{on_err_weaker}
use Rattle.vt_cells.specs.Op.{bytes_of_all}
use Rattle.vt_redraw.specs.Internals.{cells_from}
use Rattle.vt_redraw.proofs.items.write_linked.Goals as goal

pub returns : goal.returns
returns g c =
    let text = g.S.Sink.text in
    let r = c.args.row in
    let start = text c.args.sink.now in
    let mid = text c.write_first.new.sink in
    let link = c.in_ok-link.link in
    let xs = c.args.cells.now.cells in
    let ys = c.blank-over.result.cells in
    let rest = cells_from r link.settled c.write_first.new.pen link.wrapped xs ys in
    let wrote : (end : List ℕ) → end ≡ mid ++ bytes_of_all rest.ops →
    end ≡ start ++ bytes_of_all (linked_item r xs).ops =
    λ end. linked_wrote r xs ys (pen_at r 0 c.new.result) c.write_first.new.pen link start mid end
    (ap (λ (z : RowValue). z.cells) c.blank-over.ensures ∙ ap (blanks default_attrs) c.cols.ensures)
    (ap (λ (a : Attrs). pen_at r 0 a) c.new.ensures) c.in_ok-link.ensures.links in
    record {
      text = on_ok_weaker c.write_cells.result (λ more. wrote _ more.bytes) c.write_cells.ensures.writes;
      nonempty =
          on_err_weaker c.write_cells.result
          (text_after_some start _ mid (bytes_of_all rest.ops) _ c.in_ok-link.ensures.links.bytes (wrote _ refl))
          c.write_cells.ensures.nonempty;
    }
