use Rattle.std.proofs.Common.{◌≡◌, ◌≤◌, ◌-◌, ◌++◌, List, length, take, ap, ◌∙◌, arith}
use Rattle.std.proofs.lemmas.Slice.{take-put_mid}
use Rattle.vt_cells.specs.Cell.{CellValue}
use Rattle.vt_rows.proofs.Texts.{piece_taken, length-piece}
use Rattle.vt_rows.proofs.Steps.{length-put_mid}
use Rattle.vt_rows.proofs.copies.copy_over.Goals as goal

pub loop-done-preserved : goal.loop-done-preserved
loop-done-preserved c =
    let from = c.args.from.now in
    let cells = c.loop-done.cells in
    let done = c.loop-done.done in
    let end = c.min-end.result in
    let new = c.copy_from_slice.new.self in
    let forth : done ≤ end = omega arith in
    let within : end ≤ length from = omega arith in
    let size : length new ≡ end - done =
    ap (λ (xs : List CellValue). length xs) c.copy_from_slice.ensures.after ∙ length-piece from done end forth within in
    record {
      within = within;
      same =
          take-put_mid done (end - done) cells new end (omega arith) (omega (arith, c.loop-done.invariant.len))
          ∙ (ap (λ (xs : List CellValue). xs ++ new) c.loop-done.invariant.same
          ∙ (ap (λ (xs : List CellValue). take done from ++ xs) c.copy_from_slice.ensures.after
          ∙ piece_taken from done end forth));
      len = length-put_mid done (end - done) cells new size (omega (arith, c.loop-done.invariant.len))
          ∙ c.loop-done.invariant.len;
    }
