use Rattle.std.proofs.Common.{◌∙◌, sym, ap, arith}
use Rattle.vt_rows.specs.Cells.{ends_blank}
use Rattle.vt_rows.specs.Row.{RowValue}
use Rattle.vt_redraw.proofs.Filling.{nearest_here, nearest_up}
use Rattle.vt_redraw.proofs.cursor_rule.nearest.Goals as goal

pub loop-row-preserved : goal.loop-row-preserved
loop-row-preserved c =
    let l = c.loop-row in
    let some = c.if-at-eq0.false in
    let low = l.invariant.1 in (
      nearest_up c.args.view.now.width c.args.view.now.rows l.at (omega arith)
          (ap (λ (z : RowValue). ends_blank z.cells) (sym c.row.ensures.value)
          ∙ (sym c.ends_blank.ensures ∙ c.loop-row-test.true))
          ∙ l.invariant.0,
      omega arith,
    )

pub returns-clause-value : goal.returns-clause-value
returns-clause-value c =
    let l = c.loop-row in
    sym (nearest_here c.args.view.now.width c.args.view.now.rows l.at
    (ap (λ (z : RowValue). ends_blank z.cells) (sym c.row.ensures.value)
    ∙ (sym c.ends_blank.ensures ∙ c.loop-row-test.false)))
    ∙ l.invariant.0
