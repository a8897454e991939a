use Rattle.std.proofs.Common.{◌≡◌, ◌≤◌, ◌+◌, ◌++◌, Bool, List, length, take, vec_len, ap, ◌∙◌, arith}
use Rattle.std.specs.Prelude.{slice_range, if◌then◌else◌}
use Rattle.std.proofs.lemmas.List.{append_assoc}
use Rattle.vt_cells.specs.Cell.{CellValue}
use Rattle.vt_rows.proofs.Texts.{piece_taken, length-piece}
use Rattle.vt_rows.proofs.copies.push_copies.Goals as goal

pub loop-done-preserved : goal.loop-done-preserved
loop-done-preserved c =
    let from = c.args.from.now in
    let was = c.args.cells.now.items in
    let cells = c.loop-done.cells in
    let done = c.loop-done.done in
    let end = c.min-end.result in
    let piece = slice_range from done end in
    let forth : done ≤ end = omega arith in
    let within : end ≤ length from = omega arith in
    let size = length-piece from done end forth within in
    let ok = c.extend_from_slice.ensures.succeeds (omega arith) in
    record {
      within = within;
      items =
          c.extend_from_slice.ensures.items
          ∙ (ap (λ (ok : Bool). if ok then cells.items ++ piece else cells.items) ok
          ∙ (ap (λ (xs : List CellValue). xs ++ piece) c.loop-done.invariant.items
          ∙ (append_assoc was (take done from) piece
          ∙ ap (λ (xs : List CellValue). was ++ xs) (piece_taken from done end forth))));
      len = let len : vec_len c.extend_from_slice.new.self ≡ vec_len cells + length piece =
          c.extend_from_slice.ensures.len
          ∙ ap (λ (ok : Bool). if ok then vec_len cells + length piece else vec_len cells) ok in
          omega (arith, len, size, c.loop-done.invariant.len);
      room = omega arith;
    }
