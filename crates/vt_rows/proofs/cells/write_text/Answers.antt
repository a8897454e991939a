use Rattle.std.proofs.Common.{◌≡◌, ◌+◌, ◌-◌, ◌++◌, List, length, take, ap, sym, ◌∙◌, arith}
use Rattle.std.specs.List.{slice_range}
use Rattle.std.proofs.lemmas.List.{take_all}
use Rattle.std.proofs.lemmas.Slice.{take-put_mid}
use Rattle.vt_cells.specs.Cell.{CellValue}
use Rattle.vt_rows.specs.Texts.{glyphs_of}
use Rattle.vt_rows.proofs.Texts.{length-piece, length-glyphs_of, glyphs_on}
use Rattle.vt_rows.proofs.Steps.{length-put_mid}
use Rattle.vt_rows.proofs.cells.write_text.Goals as goal

pub loop-done-preserved : goal.loop-done-preserved
loop-done-preserved c =
    let cells = c.loop-done.cells in
    let text = c.args.text.now in
    let done = c.loop-done.done in
    let end = done + 8 in
    let run = end - done in
    let new = c.write_group.new.cells in
    let piece = slice_range text done end in
    let size : length piece ≡ run = length-piece text done end (omega arith) (omega arith) in
    let new_size : length new ≡ run =
    ap (λ (xs : List CellValue). length xs) c.write_group.ensures ∙ (length-glyphs_of c.args.attrs piece ∙ size) in
    record {
      within = omega arith;
      len = length-put_mid done run cells new new_size (omega arith) ∙ c.loop-done.invariant.len;
      same =
          take-put_mid done run cells new end (omega (arith, new_size)) (omega arith)
          ∙ (ap (λ (xs : List CellValue). xs ++ new) c.loop-done.invariant.same
          ∙ (ap (λ (xs : List CellValue). glyphs_of c.args.attrs (take done text) ++ xs) c.write_group.ensures
          ∙ glyphs_on c.args.attrs text done end (omega arith)));
    }

pub returns : goal.returns
returns c =
    let cells = c.loop-done.cells in
    let text = c.args.text.now in
    let done = c.loop-done.done in
    let len = length text in
    let rest = len - done in
    let new = c.write_each.new.cells in
    let piece = slice_range text done len in
    let size : length piece ≡ rest = length-piece text done len (omega arith) (omega arith) in
    let new_size : length new ≡ rest =
    ap (λ (xs : List CellValue). length xs) c.write_each.ensures ∙ (length-glyphs_of c.args.attrs piece ∙ size) in
    let whole = length-put_mid done rest cells new new_size (omega arith) in
    sym (take_all len _ (omega (arith, whole)))
    ∙ (take-put_mid done rest cells new len (omega (arith, new_size)) (omega arith)
    ∙ (ap (λ (xs : List CellValue). xs ++ new) c.loop-done.invariant.same
    ∙ (ap (λ (xs : List CellValue). glyphs_of c.args.attrs (take done text) ++ xs) c.write_each.ensures
    ∙ (glyphs_on c.args.attrs text done len (omega arith)
    ∙ ap (glyphs_of c.args.attrs) (take_all len text (omega arith))))))
