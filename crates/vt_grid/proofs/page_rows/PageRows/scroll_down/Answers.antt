use Rattle.std.proofs.Common.{false, ◌+◌, ◌-◌, ◌<◌, length, ap, ◌∙◌, arith}
use Rattle.vt_grid.specs.Flat.{rows_of}
use Rattle.vt_grid.specs.Page.{moved_rows}
use Rattle.vt_grid.specs.Shifts.{down_source}
use Rattle.vt_grid.specs.PageRows.{PageRowsValue, page_row, with_page_row}
use Rattle.vt_grid.proofs.Flats.{flat_turned}
use Rattle.vt_grid.proofs.Scrolls.{counted_turned, turned_down}
use Rattle.vt_grid.proofs.page_rows.PageRows.scroll_down.Goals as goal

pub invariant_of-self : goal.invariant_of-self
invariant_of-self c =
    let flat = c.self.inside.flat in
    let all = ap (λ (s : PageRowsValue). length s.rows) c.self.view_is in
    let bottom : c.from-end.result < length (rows_of flat) =
    omega (arith, all, c.requires.inside, c.from-end.ensures) in
    let order = c.requires.in_order in
    let few = c.min-count.ensures in
    flat_turned c.from-top.result (c.from-end.result + 1)
    (c.from-end.result + 1 - c.from-top.result - c.min-count.result) flat c.rotate.new.self c.self.invariant
    (omega (arith, few, order, c.from-top.ensures, c.from-end.ensures)) (omega (arith, bottom))
    c.rotate.ensures.cells c.rotate.ensures.columns c.rotate.ensures.len c.rotate.ensures.lines

pub clear_rows-requires-clause-inside : goal.clear_rows-requires-clause-inside
clear_rows-requires-clause-inside c =
    let all = ap (λ (s : PageRowsValue). length s.rows) c.self.view_is in
    omega (
      arith,
      all,
      c.requires.inside,
      c.requires.in_order,
      c.from-end.ensures,
      c.from-top.ensures,
      c.min-count.ensures,
      counted_turned c.self.inside.flat c.rotate.new.self c.rotate.ensures.len,
    )

pub wrap-requires : goal.wrap-requires
wrap-requires c =
    let all = ap (λ (s : PageRowsValue). length s.rows) c.self.view_is in
    omega (
      arith,
      all,
      c.requires.inside,
      c.from-2.ensures,
      c.clear_rows.ensures.len,
      counted_turned c.self.inside.flat c.rotate.new.self c.rotate.ensures.len,
    )

pub returns : goal.returns
returns c =
    let flat = c.self.inside.flat in
    let all = ap (λ (s : PageRowsValue). length s.rows) c.self.view_is in
    let moved = turned_down c.from-top.result c.from-end.result c.from.result c.min-count.result
    flat c.rotate.new.self c.new.result c.clear_rows.new.self c.min-count.ensures
    (omega (arith, c.requires.in_order, c.from-top.ensures, c.from-end.ensures))
    (omega (arith, all, c.requires.inside, c.from-end.ensures))
    c.rotate.ensures.cells c.rotate.ensures.columns c.rotate.ensures.len c.rotate.ensures.lines
    c.new.ensures c.clear_rows.ensures.len c.clear_rows.ensures.width c.clear_rows.ensures.by_index
    ∙ (λ z.
    record {
      rows =
          moved_rows (c.self.view_is z).width
          (down_source (length (c.self.view_is z).rows)
          (c.from-top.ensures z) (c.from-end.ensures z) (c.from.ensures z))
          (c.self.view_is z).rows;
      width = (c.self.view_is z).width;
    }) in
    c.wrap.ensures
    ∙ (λ z. with_page_row (c.from-2.ensures z)
    (record (page_row (moved z) (c.from-2.ensures z)) { wrapped = false }) (moved z))
