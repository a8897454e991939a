use Rattle.std.proofs.Common.{◌≤◌, length, ap, ◌∙◌, arith}
use Rattle.vt_grid.specs.PageRows.{PageRowsValue, with_blank_rows}
use Rattle.vt_grid.proofs.Flats.{rows_counted}
use Rattle.vt_grid.proofs.Heights.{appended_flat, same_flat}
use Rattle.vt_grid.proofs.page_rows.PageRows.append_rows.Goals as goal

pub append_rows-requires-clause-more : goal.append_rows-requires-clause-more
append_rows-requires-clause-more c =
    let flat = c.self.inside.flat in
    omega (
      arith,
      ap length c.reserve.ensures.lines,
      rows_counted flat.columns flat.cells.items flat.lines.items,
      ap (λ (s : PageRowsValue). length s.rows) c.self.view_is,
      c.requires,
    )

pub invariant_of-self-2 : goal.invariant_of-self-2
invariant_of-self-2 c =
    let flat = c.self.inside.flat in
    let room = c.reserve.new.self in
    let same = same_flat flat room c.self.invariant c.reserve.ensures.cells c.reserve.ensures.lines
    c.reserve.ensures.columns in
    let more : length room.lines.items ≤ c.args.rows = omega (
      arith,
      ap length c.reserve.ensures.lines,
      rows_counted flat.columns flat.cells.items flat.lines.items,
      ap (λ (s : PageRowsValue). length s.rows) c.self.view_is,
      c.requires,
    ) in
    (appended_flat c.args.rows room c.append_rows.new.self same.1 more
    c.append_rows.ensures.cells c.append_rows.ensures.lines c.append_rows.ensures.columns).1

pub returns-clause-ok : goal.returns-clause-ok
returns-clause-ok c =
    let flat = c.self.inside.flat in
    let room = c.reserve.new.self in
    let same = same_flat flat room c.self.invariant c.reserve.ensures.cells c.reserve.ensures.lines
    c.reserve.ensures.columns in
    let more : length room.lines.items ≤ c.args.rows = omega (
      arith,
      ap length c.reserve.ensures.lines,
      rows_counted flat.columns flat.cells.items flat.lines.items,
      ap (λ (s : PageRowsValue). length s.rows) c.self.view_is,
      c.requires,
    ) in
    (appended_flat c.args.rows room c.append_rows.new.self same.1 more
    c.append_rows.ensures.cells c.append_rows.ensures.lines c.append_rows.ensures.columns).0
    ∙ ap (with_blank_rows c.args.rows) (same.0 ∙ c.self.view_is)
