use Rattle.std.proofs.Common.{ℕ, length, subst, sym}
use Rattle.vt_grid.specs.Page.{Page}
use Rattle.vt_redraw.specs.Internals.{Shifts}
use Rattle.vt_redraw.specs.Shifted.{IsRowShift}
use Rattle.vt_redraw.proofs.Moving.{more_shifts, size_so_far}
use Rattle.vt_redraw.proofs.row_shifts.write_row_shifts.Goals.{in-Some+in_ok-write_shift-2, in_default}
use Rattle.vt_redraw.proofs.row_shifts.write_row_shifts.Goals as goal

pub write_shift-requires-in-Some : goal.write_shift-requires-in-Some
write_shift-requires-in-Some g c =
    let l = c.loop-row in
    let text = g.S.Sink.text in
    size_so_far c.args.first c.in-Some.shift (text c.args.sink.now) (text l.sink) c.args.grid.now l.grid
    l.invariant.shifts
    (subst (λ (n : ℕ). IsRowShift n c.args.grid.now.width c.in-Some.shift) (sym c.requires.height)
    (subst (λ (n : ℕ). IsRowShift (length c.args.prev.now.rows) n c.in-Some.shift) (sym c.requires.width)
    c.in-Some.ensures))

pub loop-row-preserved : goal.loop-row-preserved
loop-row-preserved g c =
    let l = c.loop-row in
    let m = c.match-likely_row_shift in
    let text = g.S.Sink.text in
    let start = text c.args.sink.now in
    let first = c.args.first in
    let before = c.args.grid.now in
    elim m.branch [
      | in-Some+in_ok-write_shift-2 w ↦ record {
        shifts =
            subst (λ s. Shifts first start (text s) before m.grid) (sym w.sink-is)
            (subst (λ (p : Page). Shifts first start (text w.write_shift-in-Some.new.sink) before p) (sym w.grid-is)
            (more_shifts first w.in-Some.shift start (text l.sink) (text w.write_shift-in-Some.new.sink) before
            l.grid w.write_shift-in-Some.new.grid l.invariant.shifts
            (subst (λ (n : ℕ). IsRowShift n before.width w.in-Some.shift) (sym c.requires.height)
            (subst (λ (n : ℕ). IsRowShift (length c.args.prev.now.rows) n w.in-Some.shift) (sym c.requires.width)
            w.in-Some.ensures))
            w.in_ok-write_shift-2.ensures.text w.in_ok-write_shift-2.ensures.page));
      }
      | in_default w ↦ record {
        shifts =
            subst (λ s. Shifts first start (text s) before m.grid) (sym w.sink-is)
            (subst (λ (p : Page). Shifts first start (text l.sink) before p) (sym w.grid-is) l.invariant.shifts);
      }
    ]
