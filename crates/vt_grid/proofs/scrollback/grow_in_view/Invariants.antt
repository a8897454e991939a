use Rattle.std.proofs.Common.{◌≡◌, ◌+◌, ◌-◌, ◌≤◌, ◌++◌, take, drop, map}
use Rattle.vt_grid.specs.Scrollback.{grown_row}
use Rattle.vt_grid.specs.Internals.{AreSpare, window_from}
use Rattle.vt_grid.proofs.scrollback.grow_in_view.Given as goal

abbrev pub invariant-loop-k : goal.invariant-loop-k
invariant-loop-k l = record {
  grown : l.rows.items
      ≡ (take l.first l.fn.rows.items
      ++ map (grown_row l.size.cols) (window_from l.first (l.k - l.first) l.fn.rows.items))
      ++ drop l.k l.fn.rows.items;
  spare : AreSpare l.size.cols (take (l.first + l.size.rows - l.k) (drop l.k l.fn.rows.items)) l.spare.items;
  begun : l.first ≤ l.k;
}
