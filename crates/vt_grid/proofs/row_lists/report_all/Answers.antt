use Rattle.std.proofs.Common.{length}
use Rattle.std.proofs.lemmas.List.Elements.{All-tail}
use Rattle.vt_rows.specs.Row.{RowValue, IsRow}
use Rattle.vt_grid.proofs.row_lists.report_all.Goals as goal

pub loop-row-preserved : goal.loop-row-preserved
loop-row-preserved g c =
    let was = c.loop-row.invariant in
    let row = c.in-Some.row in
    record {
      told =
          λ z told. was.told z
          (rw c.in-Some.ensures.items (c.leave.new.self, rw c.contents.ensures at c.leave.ensures, told));
      sound =
          All-tail (λ (row : RowValue). IsRow (length row.cells) row) row _ (rw c.in-Some.ensures.items at was.sound);
    }
