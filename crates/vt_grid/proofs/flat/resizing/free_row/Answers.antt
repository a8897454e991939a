use Rattle.std.proofs.Common.{◌+◌, ◌<◌, ◌≤◌, ℕ, inl, inr, sym, subst, arith}
use Rattle.std.proofs.lemmas.Bool.{cases_eq}
use Rattle.vt_grid.specs.Flat.{line_at}
use Rattle.vt_grid.proofs.Packing.{free_left}
use Rattle.vt_grid.proofs.flat.resizing.free_row.Goals as goal

pub loop-row-init : goal.loop-row-init
loop-row-init c =
    let r = c.requires in
    record {
      after = omega arith;
      inside =
          free_left c.args.rows c.args.from r.nonempty.0 c.args.lines.now r.table r.distinct r.later
          r.nonempty.1 r.nonempty.2 r.nonempty.3;
      later = r.later;
    }

pub loop-row-preserved : goal.loop-row-preserved
loop-row-preserved c =
    let r = c.requires in
    let at = c.loop-row in
    let inv = at.invariant in
    let later : (k : ℕ) → c.args.rows ≤ k → k < at.row + 1 → c.args.rows ≤ (line_at c.args.lines.now k).place = λ k h i.
    elim (cases_eq k at.row) [
      | inl e ↦
          subst (λ (j : ℕ). c.args.rows ≤ (line_at c.args.lines.now j).place) (sym e)
          (omega (arith, c.loop-row-test.true, c.from.ensures))
      | inr o ↦ inv.later k h (grind (arith, o, i))
    ] in
    record {
      after = omega (arith, inv.after);
      inside =
          free_left c.args.rows (at.row + 1) r.nonempty.0 c.args.lines.now r.table r.distinct later
          r.nonempty.1 r.nonempty.2 r.nonempty.3;
      later = later;
    }
