use Rattle.std.proofs.Common.{List, ◌≡◌, ◌+◌, ◌<◌, ◌≤◌, ◌∙◌, ℕ, length, sym, ap, subst, arith}
use Rattle.vt_grid.specs.declared.flat.Flat.{Flat}
use Rattle.vt_grid.specs.declared.flat.Line.{Line}
use Rattle.vt_grid.specs.Flat.{line_at}
use Rattle.vt_grid.proofs.Packing.{PackedTo, packed_none, packed_same, packed_traded}
use Rattle.vt_grid.proofs.flat.Flat.pack.Goals as goal
use Rattle.vt_grid.proofs.flat.Flat.pack.Goals.{then-from-rows, else-from-rows}

pub loop-row-init : goal.loop-row-init
loop-row-init c = record { state = packed_none c.args.rows c.args.self.now c.requires.flat }

pub free_row-free-requires-clause-nonempty : goal.free_row-free-requires-clause-nonempty
free_row-free-requires-clause-nonempty c =
    let at = c.loop-row in
    let lines = at.self.lines.items in
    let inside : at.row < length lines = omega (arith, c.loop-row-test.true, at.invariant.state.len, c.requires.inside) in
    let place : c.from.result ≡ (line_at lines at.row).place =
    c.from.ensures ∙ ap (λ (x : Line). x.place) c.get.ensures in
    let same = c.as_slice.ensures in (
      at.row,
      c.loop-row-test.true,
      omega (arith, inside, ap length same),
      subst (λ (xs : List Line). c.args.rows ≤ (line_at xs at.row).place) (sym same)
          (omega (arith, place, c.if-from-rows.true)),
    )

pub loop-row-preserved : goal.loop-row-preserved
loop-row-preserved c =
    let at = c.loop-row in
    let lines = at.self.lines.items in
    let inside : at.row < length lines = omega (arith, c.loop-row-test.true, at.invariant.state.len, c.requires.inside) in
    let place : c.from.result ≡ (line_at lines at.row).place =
    c.from.ensures ∙ ap (λ (x : Line). x.place) c.get.ensures in
    record {
      state = elim c.if-from-rows.branch [
        | then-from-rows w ↦
            let same = w.as_slice.ensures in
            let free = w.free_row-free in
            subst (λ (x : Flat × ℕ). PackedTo c.args.rows (at.row + 1) x.1 c.args.self.now x.0)
            (λ z. (sym w.self-is z, sym w.free-is z))
            (packed_traded c.args.rows at.row at.free free.result c.args.self.now at.self w.trade.new.self
            c.loop-row-test.true c.requires.inside free.ensures.after
            (subst (λ (xs : List Line). (line_at xs free.result).place < c.args.rows) same free.ensures.found)
            (subst (λ (xs : List Line). (k : ℕ) → c.args.rows ≤ k → k < free.result → c.args.rows ≤ (line_at xs k).place)
            same free.ensures.later)
            w.trade.ensures.flat w.trade.ensures.len w.trade.ensures.columns w.trade.ensures.row
            w.trade.ensures.lines w.trade.ensures.rows at.invariant.state)
        | else-from-rows w ↦
            subst (λ (x : Flat × ℕ). PackedTo c.args.rows (at.row + 1) x.1 c.args.self.now x.0)
            (λ z. (sym w.self-is z, sym w.free-is z))
            (packed_same c.args.rows at.row at.free c.args.self.now at.self
            (omega (arith, place, w.if-from-rows)) at.invariant.state)
      ];
    }
