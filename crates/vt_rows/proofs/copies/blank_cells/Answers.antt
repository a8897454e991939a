use Rattle.std.proofs.Common.{◌≡◌, ◌≤◌, ◌+◌, ◌-◌, ◌++◌, Bool, List, take, replicate, vec_len, ap, ◌∙◌, arith}
use Rattle.std.specs.Prelude.{if◌then◌else◌}
use Rattle.std.proofs.lemmas.List.{length-replicate, replicate-append-replicate, take_all}
use Rattle.vt_cells.specs.Attrs.{default_attrs}
use Rattle.vt_cells.specs.Cell.{CellValue, default_blank}
use Rattle.vt_rows.specs.Cells.{blanks}
use Rattle.vt_rows.proofs.copies.blank_cells.Goals as goal

pub loop-cells-preserved : goal.loop-cells-preserved
loop-cells-preserved c =
    let cells = c.loop-cells.cells in
    let len = vec_len cells in
    let end = c.min-end.result in
    let forth : len ≤ end = omega arith in
    let ok = c.resize.ensures.succeeds (omega arith) in
    let size : vec_len c.resize.new.self ≡ end =
    c.resize.ensures.len ∙ ap (λ (ok : Bool). if ok then end else len) ok in
    let all : take end (blanks default_attrs len) ≡ blanks default_attrs len =
    take_all end (blanks default_attrs len) (omega (arith, length-replicate len default_blank)) in
    let whole : len + (end - len) ≡ vec_len c.resize.new.self = omega (arith, size) in
    record {
      within = omega (arith, size);
      room = omega arith;
      made =
          c.resize.ensures.items
          ∙ (ap (λ (ok : Bool). if ok then take end cells.items ++ replicate (end - len) c.default_blank.result else cells.items) ok
          ∙ (ap (λ (xs : List CellValue). take end xs ++ replicate (end - len) c.default_blank.result) c.loop-cells.invariant.made
          ∙ (ap (λ (xs : List CellValue). xs ++ replicate (end - len) c.default_blank.result) all
          ∙ (ap (λ (blank : CellValue). blanks default_attrs len ++ replicate (end - len) blank) c.default_blank.ensures
          ∙ (replicate-append-replicate len (end - len) default_blank ∙ ap (blanks default_attrs) whole)))));
    }
