use Rattle.std.proofs.Common.{◌+◌, ◌<◌, length, ap, ◌∙◌, arith}
use Rattle.vt_grid.specs.Flat.{rows_of}
use Rattle.vt_grid.specs.Page.{rows_up}
use Rattle.vt_grid.specs.PageRows.{PageRowsValue}
use Rattle.vt_grid.proofs.Flats.{flat_turned}
use Rattle.vt_grid.proofs.Scrolls.{counted_turned, turned_up}
use Rattle.vt_grid.proofs.page_rows.PageRows.scroll_up.Goals as goal

pub invariant_of-self : goal.invariant_of-self
invariant_of-self c =
    let flat = c.self.inside.flat in
    let all = ap (λ (s : PageRowsValue). length s.rows) c.self.view_is in
    let bottom : c.from-end.result < length (rows_of flat) =
    omega (arith, all, c.requires.inside, c.from-end.ensures) in
    let order = c.requires.in_order in
    let few = c.min-count.ensures in
    flat_turned c.from-top.result (c.from-end.result + 1) c.min-count.result flat c.rotate.new.self
    c.self.invariant (omega (arith, few, order, c.from-top.ensures, c.from-end.ensures)) (omega (arith, bottom))
    c.rotate.ensures.cells c.rotate.ensures.columns c.rotate.ensures.len c.rotate.ensures.lines

pub clear_rows-requires-clause-inside : goal.clear_rows-requires-clause-inside
clear_rows-requires-clause-inside c =
    let all = ap (λ (s : PageRowsValue). length s.rows) c.self.view_is in
    omega (
      arith,
      all,
      c.requires.inside,
      c.requires.in_order,
      c.from-end.ensures,
      c.from-top.ensures,
      c.min-count.ensures,
      counted_turned c.self.inside.flat c.rotate.new.self c.rotate.ensures.len,
    )

pub returns : goal.returns
returns c =
    let flat = c.self.inside.flat in
    let all = ap (λ (s : PageRowsValue). length s.rows) c.self.view_is in
    turned_up c.from-top.result c.from-end.result c.from.result c.min-count.result
    flat c.rotate.new.self c.new.result c.clear_rows.new.self c.min-count.ensures
    (omega (arith, c.requires.in_order, c.from-top.ensures, c.from-end.ensures))
    (omega (arith, all, c.requires.inside, c.from-end.ensures))
    c.rotate.ensures.cells c.rotate.ensures.columns c.rotate.ensures.len c.rotate.ensures.lines
    c.new.ensures c.clear_rows.ensures.len c.clear_rows.ensures.width c.clear_rows.ensures.by_index
    ∙ (λ z.
    record {
      rows =
          rows_up (c.self.view_is z).width (c.from-top.ensures z)
          (c.from-end.ensures z) (c.from.ensures z) (c.self.view_is z).rows;
      width = (c.self.view_is z).width;
    })
