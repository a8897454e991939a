use Rattle.std.proofs.Common.{◌-◌, ◌≡◌, ◌+◌, ◌≤◌, length, drop}
use Rattle.vt_redraw.specs.Script.{blank_run}
use Rattle.vt_redraw.proofs.picture_row.PictureRow.run.Given as goal

abbrev pub invariant-loop-end : goal.invariant-loop-end
invariant-loop-end l =
    (blank_run l.attrs (drop l.col l.self.cells) ≡ (l.end - l.col) + blank_run l.attrs (drop l.end l.self.cells))
    × ((l.col ≤ l.end) × (l.end ≤ length l.self.cells))

abbrev pub decreases-loop-end : goal.decreases-loop-end
decreases-loop-end l = length l.self.cells - l.end
