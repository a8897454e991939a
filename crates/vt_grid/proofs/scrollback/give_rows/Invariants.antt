use Rattle.std.proofs.Common.{◌≡◌, ◌+◌, ◌-◌, ◌≤◌, length, take}
use Rattle.vt_grid.proofs.Scrolls.{MovedInto}
use Rattle.vt_grid.proofs.scrollback.give_rows.Given as goal

abbrev pub invariant-loop-k : goal.invariant-loop-k
invariant-loop-k l = record {
  moved : MovedInto (λ j. length l.fn.kept.items + j - l.up) l.k (l.up) l.fn.kept.items l.fn.page.rows l.page.rows;
  long : length l.page.rows ≡ length l.fn.page.rows;
  left : l.kept.items ≡ take (length l.fn.kept.items + l.k - l.up) l.fn.kept.items;
  width : l.page.width ≡ l.fn.page.width;
  few : l.k ≤ l.up;
  nonempty : l.up ≤ length l.fn.kept.items + l.k;
}

abbrev pub decreases-loop-k : goal.decreases-loop-k
decreases-loop-k l = l.k
