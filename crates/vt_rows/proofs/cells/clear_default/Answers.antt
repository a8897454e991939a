use Rattle.std.proofs.Common.{◌≡◌, ℕ, ◌+◌, ◌-◌, ◌++◌, List, length, ap, sym, ◌∙◌, arith}
use Rattle.std.proofs.lemmas.List.{length-replicate, replicate-append-replicate, take_all}
use Rattle.std.proofs.lemmas.Slice.{take-put_mid}
use Rattle.vt_cells.specs.Attrs.{Attrs, default_attrs}
use Rattle.vt_cells.specs.Cell.{CellValue, default_blank}
use Rattle.vt_rows.specs.Cells.{blanks}
use Rattle.vt_rows.proofs.Texts.{length-piece}
use Rattle.vt_rows.proofs.Steps.{length-put_mid}
use Rattle.vt_rows.proofs.cells.clear_default.Goals as goal

pub loop-done-preserved : goal.loop-done-preserved
loop-done-preserved c =
    let cells = c.loop-done.cells in
    let done = c.loop-done.done in
    let end = done + 8 in
    let new = c.clear_group.new.cells in
    let run = end - done in
    let piece = length-piece cells done end (omega arith) (omega arith) in
    let made : new ≡ blanks default_attrs run =
    c.clear_group.ensures
    ∙ (ap (λ (n : ℕ). blanks c.new-attrs.result n) piece ∙ ap (λ (a : Attrs). blanks a run) c.new-attrs.ensures) in
    let size : length new ≡ run =
    ap (λ (xs : List CellValue). length xs) made ∙ length-replicate run default_blank in
    record {
      within = omega arith;
      len = length-put_mid done run cells new size (omega arith) ∙ c.loop-done.invariant.len;
      blank =
          take-put_mid done run cells new end (omega (arith, size)) (omega arith)
          ∙ (ap (λ (xs : List CellValue). xs ++ new) c.loop-done.invariant.blank
          ∙ (ap (λ (xs : List CellValue). blanks default_attrs done ++ xs) made
          ∙ (replicate-append-replicate done run default_blank ∙ ap (blanks default_attrs) (omega arith))));
    }

pub returns : goal.returns
returns c =
    let cells = c.loop-done.cells in
    let done = c.loop-done.done in
    let new = c.clear_each.new.cells in
    let len = length c.args.cells.now in
    let rest = len - done in
    let size = length-piece cells done len (omega arith) (omega arith) in
    let made : new ≡ blanks default_attrs rest =
    c.clear_each.ensures
    ∙ (ap (λ (n : ℕ). blanks c.new-attrs.result n) size ∙ ap (λ (a : Attrs). blanks a rest) c.new-attrs.ensures) in
    let new_size : length new ≡ rest =
    ap (λ (xs : List CellValue). length xs) made ∙ length-replicate rest default_blank in
    let whole = length-put_mid done rest cells new new_size (omega arith) in
    sym (take_all len _ (omega (arith, whole)))
    ∙ (take-put_mid done rest cells new len (omega (arith, new_size)) (omega arith)
    ∙ (ap (λ (xs : List CellValue). xs ++ new) c.loop-done.invariant.blank
    ∙ (ap (λ (xs : List CellValue). blanks default_attrs done ++ xs) made
    ∙ (replicate-append-replicate done rest default_blank
    ∙ ap (blanks default_attrs) (omega arith)))))
