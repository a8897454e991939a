use Rattle.std.proofs.Common.{◌≡◌, ◌-◌, ◌∙◌, length, get_or, sym, ap, arith}
use Rattle.vt_rows.specs.Internals.{rotation_source}
use Rattle.vt_grid.specs.declared.flat.Columns.{Columns}
use Rattle.vt_grid.specs.Flat.{line_at, row_in, rows_of}
use Rattle.vt_grid.specs.PageRows.{PageRowsValue}
use Rattle.vt_grid.specs.Resize.{rows_resized, window}
use Rattle.vt_grid.proofs.Flats.{flat_turned, row_found, rows_counted, rows_turned}
use Rattle.vt_grid.proofs.Heights.{kept_rows}
use Rattle.vt_grid.proofs.page_rows.PageRows.keep_rows.Goals as goal

pub truncate-requires-clause-flat : goal.truncate-requires-clause-flat
truncate-requires-clause-flat c =
    let flat = c.self.inside.flat in
    let all = ap (λ (s : PageRowsValue). length s.rows) c.self.view_is in
    flat_turned 0 c.len-len.result c.from.result flat c.rotate.new.self c.self.invariant
    (omega (arith, c.requires.inside, c.len-len.ensures, c.from.ensures)) (omega (arith, all, c.len-len.ensures))
    c.rotate.ensures.cells c.rotate.ensures.columns c.rotate.ensures.len c.rotate.ensures.lines

pub truncate-requires-clause-inside : goal.truncate-requires-clause-inside
truncate-requires-clause-inside c =
    let flat = c.self.inside.flat in
    omega (
      arith,
      c.requires.inside,
      c.from-rows.ensures,
      ap (λ (s : PageRowsValue). length s.rows) c.self.view_is,
      rows_counted flat.columns flat.cells.items flat.lines.items,
      c.rotate.ensures.len,
    )

pub wrap-requires : goal.wrap-requires
wrap-requires c =
    let kept = c.truncate.new.self in
    omega (
      arith,
      c.requires.nonempty,
      c.from-rows.ensures,
      c.truncate.ensures.len,
      rows_counted kept.columns kept.cells.items kept.lines.items,
    )

pub returns-clause-rows : goal.returns-clause-rows
returns-clause-rows c = λ above.
    let flat = c.self.inside.flat in
    let old = c.args.self.now in
    let h = length old.rows in
    let n = c.len-len.result in
    let turned = c.rotate.new.self in
    let kept = c.truncate.new.self in
    let rows = c.from-rows.result in
    let all : length (rows_of flat) ≡ h = ap (λ (s : PageRowsValue). length s.rows) c.self.view_is in
    let lines = rows_counted flat.columns flat.cells.items flat.lines.items in
    let size : length (rows_of kept) ≡ rows =
    rows_counted kept.columns kept.cells.items kept.lines.items ∙ c.truncate.ensures.len in
    ap (λ (s : PageRowsValue). s.rows) c.wrap.ensures
    ∙ (kept_rows old.width kept.columns.shown h c.args.down rows (rows - 1) above old.rows (rows_of turned) (rows_of kept)
    (λ _. h) (omega (arith, c.requires.inside, c.from-rows.ensures)) (omega (arith, c.requires.nonempty, c.from-rows.ensures))
    c.requires.sound size
    (ap (λ (v : Columns). v.shown) (c.truncate.ensures.columns ∙ c.rotate.ensures.columns)
    ∙ ap (λ (s : PageRowsValue). s.width) c.self.view_is)
    (λ _. rows - 1)
    (λ k d l.
    rows_turned 0 n c.from.result flat turned (omega (arith, c.requires.inside, c.len-len.ensures, c.from.ensures))
    (omega (arith, all, c.len-len.ensures))
    c.rotate.ensures.cells c.rotate.ensures.columns c.rotate.ensures.len c.rotate.ensures.lines k d
    (omega (arith, all, l))
    ∙ (λ z. get_or (c.self.view_is z).rows (rotation_source 0 (c.len-len.ensures z) (c.from.ensures z) k) d))
    (λ k d l.
    row_found kept.columns k kept.cells.items kept.lines.items d (omega (arith, l, c.truncate.ensures.len))
    ∙ (ap (λ (v : Columns). row_in v kept.cells.items (line_at kept.lines.items k)) c.truncate.ensures.columns
    ∙ (c.truncate.ensures.rows k l
    ∙ sym (row_found turned.columns k turned.cells.items turned.lines.items d
    (omega (arith, l, c.requires.inside, c.from-rows.ensures, all, lines, c.rotate.ensures.len))))))
    ∙ λ z. rows_resized old.width (window old.width (c.from-rows.ensures z) c.args.down 0 above old.rows))
