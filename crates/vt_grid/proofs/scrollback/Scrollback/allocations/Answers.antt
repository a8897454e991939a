use Rattle.std.proofs.Common.{◌≡◌, ◌+◌, ◌-◌, ◌≤◌, length, subst, ◌∙◌, arith}
use Rattle.vt_grid.specs.Scrollback.{Scrollback, kept_after, narrow_rows}
use Rattle.vt_grid.specs.Internals.{in_view}
use Rattle.vt_grid.proofs.Growing.{none_in_view, allocations_enough}
use Rattle.vt_grid.proofs.scrollback.Scrollback.allocations.Goals as goal

pub returns-then-self-eq0 : goal.returns-then-self-eq0
returns-then-self-eq0 c = λ gone e.
    subst (λ (above : Scrollback). narrow_rows c.args.size.cols (in_view c.args.size.rows (kept_after gone above)) ≤ 0)
    c.self.view_is
    (none_in_view c.args.size.cols c.args.size.rows gone _ (omega arith))

pub returns : goal.returns
returns c = λ gone e.
    let inside = c.self.inside in
    let first = c.len-len.result + c.args.count - c.min.result in
    let len : c.len-len.result ≡ length inside.rows.items = c.len-len.ensures ∙ inside.rows.ok.0 in
    let enough = allocations_enough c.args.size.cols c.args.size.rows c.args.count first gone
    (record {
      rows = inside.rows.items;
      capacity = inside.capacity;
      theoretical = inside.theoretical;
      offset = inside.offset;
    })
    c.self.invariant e (omega arith) (omega arith) in
    subst (λ (above : Scrollback). narrow_rows c.args.size.cols (in_view c.args.size.rows (kept_after gone above))
    ≤ c.narrow_rows.result + c.saturating_sub.result)
    c.self.view_is
    (omega (arith, enough, len, c.narrow_rows.ensures.value))
