use Rattle.std.proofs.Common.{◌+◌, ◌<◌, ◌≤◌, All, arith, length, subst, take}
use Rattle.std.proofs.lemmas.List.Elements.{All-more}
use Rattle.vt_cells.specs.Attrs.{default_attrs}
use Rattle.vt_rows.specs.Row.{IsRow, blank_row}
use Rattle.vt_redraw.specs.Limited.{rows_drawn_least}
use Rattle.vt_redraw.proofs.LeastLengths.{redraw_least, rows_drawn_more}
use Rattle.vt_redraw.proofs.limited.has_drawn_least.Goals.{After-saturating_add-least}
use Rattle.vt_redraw.proofs.limited.has_drawn_least.Goals as goal

-- The current row is a row of the view.
inside : (c : After-saturating_add-least) → c.loop-row.row < length c.args.view.now.rows
inside c = omega (arith, c.rows-row-end.ensures.value, c.loop-row-test.true)

-- The sum, with the current row, is at most the lower bound.
sum_least : (c : After-saturating_add-least) →
    c.saturating_add-least.result ≤ rows_drawn_least (take (c.loop-row.row + 1) c.args.view.now.rows)
sum_least c =
    let view = c.args.view.now in
    let own = c.own_cells in
    let more = rows_drawn_more view.width view.rows c.loop-row.row c.row.result own.result.now (inside c)
    c.row.ensures.value own.ensures.first in
    omega (arith, more, c.drawn_least.ensures, c.saturating_add-least.ensures, c.loop-row.invariant.least)

-- The rows up to the current one are valid.
sound_rows : (c : After-saturating_add-least) →
    All (IsRow c.args.view.now.width) (take (c.loop-row.row + 1) c.args.view.now.rows)
sound_rows c =
    let view = c.args.view.now in
    All-more (IsRow view.width) view.rows c.loop-row.row (blank_row default_attrs view.width) (inside c)
    c.loop-row.invariant.sound (subst (IsRow view.width) c.row.ensures.value c.row.ensures.sound)

pub loop-row-preserved : goal.loop-row-preserved
loop-row-preserved c = record {
  least = sum_least c.before;
  sound = sound_rows c.before;
}

pub returns-then-least-len : goal.returns-then-least-len
returns-then-least-len c form _ =
    let sum = sum_least c.before in
    let least = redraw_least form c.args.view.now (c.loop-row.row + 1) (sound_rows c.before) in
    omega (arith, sum, least, c.if-least-len.true)
