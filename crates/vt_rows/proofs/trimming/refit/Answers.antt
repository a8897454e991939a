use Rattle.std.proofs.Common.{◌≡◌, ◌≤◌, ◌++◌, List, length, take, drop, inl, inr, ap, sym, ◌∙◌, arith}
use Rattle.std.proofs.lemmas.Bool.{cases_lt}
use Rattle.std.proofs.lemmas.List.{length-append, length-drop, length-take-le}
use Rattle.vt_cells.specs.Cell.{CellValue}
use Rattle.vt_rows.specs.Cells.{at}
use Rattle.vt_rows.specs.Internals.{end_blanked}
use Rattle.vt_rows.proofs.Edits.{at-past, at-blanks}
use Rattle.vt_rows.proofs.Texts.{at-copied, at-after_copied}
use Rattle.vt_rows.proofs.ShiftSteps.{resized_is}
use Rattle.vt_rows.proofs.trimming.refit.Goals as goal

pub returns : goal.returns
returns c =
    let cells = c.args.cells.now in
    let from = c.args.from.now in
    let n = c.min-count.result in
    let inside : n ≤ length from = omega arith in
    let size : length (take n from ++ drop n cells) ≡ length cells =
    omega (arith, length-append (take n from) (drop n cells), length-take-le n from inside, length-drop n cells) in
    c.blank_end.ensures
    ∙ (ap (λ (copies : List CellValue). end_blanked (copies ++ drop n cells)) c.copy_over.ensures
    ∙ resized_is (length cells) from (take n from ++ drop n cells) c.requires.paired size (λ k h. elim (cases_lt k n) [
      | inl lt ↦ at-copied n k from cells inside lt
      | inr ge ↦
          at-after_copied n k from cells inside ge
          ∙ (ap (λ (blank : List CellValue). at blank k) c.requires.blank
          ∙ (at-blanks (length cells) k ∙ sym (at-past from k (omega arith))))
    ]))
