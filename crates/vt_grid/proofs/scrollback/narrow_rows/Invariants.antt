use Rattle.std.proofs.Common.{◌≡◌, ◌+◌, ◌-◌, ◌≤◌, take, drop}
use Rattle.vt_grid.specs.Scrollback.{narrow_rows}
use Rattle.vt_grid.specs.Internals.{window_from}
use Rattle.vt_grid.proofs.scrollback.narrow_rows.Given as goal

abbrev pub invariant-loop-k : goal.invariant-loop-k
invariant-loop-k l = record {
  counted : l.count + narrow_rows l.size.cols (take (l.first + l.size.rows - l.k) (drop l.k l.rows.items))
      ≡ narrow_rows l.size.cols (window_from l.first l.size.rows l.rows.items);
  small : l.count + l.first ≤ l.k;
}
