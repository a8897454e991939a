use Rattle.std.proofs.Common.{◌≤◌, length, ap, ◌∙◌, arith}
use Rattle.vt_grid.specs.PageRows.{PageRowsValue, with_blank_rows}
use Rattle.vt_grid.proofs.Flats.{rows_counted}
use Rattle.vt_grid.proofs.Heights.{appended_flat, same_flat}
use Rattle.vt_grid.proofs.page_rows.PageRows.append_rows_to_both.Goals as goal

pub append_rows-requires-clause-more : goal.append_rows-requires-clause-more
append_rows-requires-clause-more c =
    let flat = c.self.inside.flat in
    omega (
      arith,
      ap length c.reserve.ensures.lines,
      rows_counted flat.columns flat.cells.items flat.lines.items,
      ap (λ (s : PageRowsValue). length s.rows) c.self.view_is,
      c.requires.own,
    )

pub append_rows-requires-2-clause-more : goal.append_rows-requires-2-clause-more
append_rows-requires-2-clause-more c =
    let flat = c.other.inside.flat in
    omega (
      arith,
      ap length c.reserve-2.ensures.lines,
      rows_counted flat.columns flat.cells.items flat.lines.items,
      ap (λ (s : PageRowsValue). length s.rows) c.other.view_is,
      c.requires.other,
    )

pub invariant_of-self-2 : goal.invariant_of-self-2
invariant_of-self-2 c =
    let flat = c.self.inside.flat in
    let room = c.reserve.new.self in
    let same = same_flat flat room c.self.invariant c.reserve.ensures.cells c.reserve.ensures.lines
    c.reserve.ensures.columns in
    let more : length room.lines.items ≤ c.args.rows = omega (
      arith,
      ap length c.reserve.ensures.lines,
      rows_counted flat.columns flat.cells.items flat.lines.items,
      ap (λ (s : PageRowsValue). length s.rows) c.self.view_is,
      c.requires.own,
    ) in
    (appended_flat c.args.rows room c.append_rows.new.self same.1 more
    c.append_rows.ensures.cells c.append_rows.ensures.lines c.append_rows.ensures.columns).1

pub invariant_of-other-2 : goal.invariant_of-other-2
invariant_of-other-2 c =
    let flat = c.other.inside.flat in
    let room = c.reserve-2.new.self in
    let same = same_flat flat room c.other.invariant c.reserve-2.ensures.cells c.reserve-2.ensures.lines
    c.reserve-2.ensures.columns in
    let more : length room.lines.items ≤ c.args.rows = omega (
      arith,
      ap length c.reserve-2.ensures.lines,
      rows_counted flat.columns flat.cells.items flat.lines.items,
      ap (λ (s : PageRowsValue). length s.rows) c.other.view_is,
      c.requires.other,
    ) in
    (appended_flat c.args.rows room c.append_rows-2.new.self same.1 more
    c.append_rows-2.ensures.cells c.append_rows-2.ensures.lines c.append_rows-2.ensures.columns).1

pub returns-clause-own : goal.returns-clause-own
returns-clause-own c =
    let flat = c.self.inside.flat in
    let room = c.reserve.new.self in
    let same = same_flat flat room c.self.invariant c.reserve.ensures.cells c.reserve.ensures.lines
    c.reserve.ensures.columns in
    let more : length room.lines.items ≤ c.args.rows = omega (
      arith,
      ap length c.reserve.ensures.lines,
      rows_counted flat.columns flat.cells.items flat.lines.items,
      ap (λ (s : PageRowsValue). length s.rows) c.self.view_is,
      c.requires.own,
    ) in
    (appended_flat c.args.rows room c.append_rows.new.self same.1 more
    c.append_rows.ensures.cells c.append_rows.ensures.lines c.append_rows.ensures.columns).0
    ∙ ap (with_blank_rows c.args.rows) (same.0 ∙ c.self.view_is)

pub returns-clause-other : goal.returns-clause-other
returns-clause-other c =
    let flat = c.other.inside.flat in
    let room = c.reserve-2.new.self in
    let same = same_flat flat room c.other.invariant c.reserve-2.ensures.cells c.reserve-2.ensures.lines
    c.reserve-2.ensures.columns in
    let more : length room.lines.items ≤ c.args.rows = omega (
      arith,
      ap length c.reserve-2.ensures.lines,
      rows_counted flat.columns flat.cells.items flat.lines.items,
      ap (λ (s : PageRowsValue). length s.rows) c.other.view_is,
      c.requires.other,
    ) in
    (appended_flat c.args.rows room c.append_rows-2.new.self same.1 more
    c.append_rows-2.ensures.cells c.append_rows-2.ensures.lines c.append_rows-2.ensures.columns).0
    ∙ ap (with_blank_rows c.args.rows) (same.0 ∙ c.other.view_is)
