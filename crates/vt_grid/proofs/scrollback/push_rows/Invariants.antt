use Rattle.std.proofs.Common.{◌≡◌, ◌+◌, ◌-◌, ◌≤◌, ◌++◌, length, min}
use Rattle.std.specs.Prelude.{All}
use Rattle.std.specs.List.{FoldsTo}
use Rattle.std.specs.Vec.Iter.{into_iter_items}
use Rattle.std.specs.VecDeque.{deque_capacity}
use Rattle.vt_rows.specs.Row.{IsRow}
use Rattle.vt_grid.specs.Scrollback.{before_last, last_of}
use Rattle.vt_grid.proofs.scrollback.push_rows.Given as goal

-- The loop invariant: pushing the remaining rows leads to the same result as pushing all rows from the start.
abbrev pub invariant-loop-row : goal.invariant-loop-row
invariant-loop-row g l =
    (goal.iterator-loop-row g).can_next l.row-iterator ×
    (goal.iterator-loop-row g).is_finite l.row-iterator ×
    record {
      kept : last_of l.capacity (l.kept.items ++ into_iter_items l.row-iterator)
          ≡ last_of l.capacity (l.fn.kept.items ++ l.fn.gone.items);
      sent : (z : _)
          → FoldsTo g.L.Leaving.leaves l.leaving
          (before_last l.capacity (l.kept.items ++ into_iter_items l.row-iterator)) z
          → FoldsTo g.L.Leaving.leaves l.fn.leaving (before_last l.capacity (l.fn.kept.items ++ l.fn.gone.items)) z;
      inside : length l.kept.items ≤ l.capacity;
      room : length l.kept.items + min (length (into_iter_items l.row-iterator)) (l.capacity - length l.kept.items)
          ≤ deque_capacity l.kept;
      sound : All (λ row. IsRow (length row.cells) row) (into_iter_items l.row-iterator);
      sound_kept : All (λ row. IsRow (length row.cells) row) l.kept.items;
    }
