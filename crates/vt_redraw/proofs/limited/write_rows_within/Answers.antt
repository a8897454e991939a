use Rattle.std.proofs.Common.{◌+◌, ap, sym, string_bytes, ◌∙◌, arith}
use Rattle.vt_grid.specs.Page.{row_or}
use Rattle.vt_redraw.specs.Internals.{rows_under}
use Rattle.vt_redraw.specs.Redraw.{rows_written}
use Rattle.vt_redraw.proofs.CellSteps.{leads_text, leads_then}
use Rattle.vt_redraw.proofs.WriterSteps.{below_leads, rows_end, top_leads}
use Rattle.vt_redraw.proofs.limited.write_rows_within.Goals as goal

pub loop-row-init : goal.loop-row-init
loop-row-init c = record {
  leads =
      top_leads c.args.view.now.width c.args.pen.now c.write_top.new.pen c.in_ok-wrapped_above.wrapped_above
      c.args.view.now.rows c.args.prev.now.rows c.row-above.result c.row.result (string_bytes c.args.text.now)
      (string_bytes c.write_top.new.sink) c.rows-last.ensures.nonempty c.requires.size.height c.row-above.ensures.value
      (c.row.ensures.value ∙ ap (λ n. row_or n c.args.prev.now.rows 0) (sym c.requires.size.width))
      c.in_ok-wrapped_above.ensures.writes;
  above = c.row-above.ensures.value;
  sound = c.row-above.ensures.sound;
  nonempty = c.row-above.ensures.nonempty;
}

pub loop-row-preserved : goal.loop-row-preserved
loop-row-preserved c =
    let l = c.loop-row in
    let r = l.row in
    let width = c.args.view.now.width in
    let xs = c.args.view.now.rows in
    let ys = c.args.prev.now.rows in
    let size = c.rows-last.ensures.value in
    let before = c.loop-row-test.true in
    let mid = string_bytes c.write_link.new.sink in
    let now = string_bytes c.write_row.new.sink in
    record {
      leads =
          leads_then (string_bytes c.args.text.now) (string_bytes l.text) now (rows_written c.args.pen.now xs ys)
          (rows_under r width l.pen l.wrapped_above xs ys)
          (rows_under (r + 1) width c.write_row.new.pen c.in_ok-wrapped_above-2.wrapped_above xs ys) l.invariant.leads
          (below_leads width r l.pen c.write_link.new.pen c.write_row.new.pen l.wrapped_above
          c.in_ok-wrapped_above-2.wrapped_above c.in_ok-link.link
          xs ys l.above c.row-cells.result c.row-over.result (string_bytes l.text) mid now (omega arith)
          c.requires.size.height l.invariant.above c.row-cells.ensures.value
          (c.row-over.ensures.value ∙ ap (λ n. row_or n ys (r + 1)) (sym c.requires.size.width))
          c.in_ok-link.ensures.links c.in_ok-wrapped_above-2.ensures.writes);
      above = c.row-cells.ensures.value;
      sound = c.row-cells.ensures.sound;
      nonempty = c.row-cells.ensures.nonempty;
    }

pub returns-clause-ops : goal.returns-clause-ops
returns-clause-ops c =
    let l = c.loop-row in
    let xs = c.args.view.now.rows in
    let ys = c.args.prev.now.rows in
    let width = c.args.view.now.width in
    let size = c.rows-last.ensures.value in
    let past = c.loop-row-test.false in
    leads_text (string_bytes l.text) (string_bytes c.args.text.now) (rows_under l.row width l.pen l.wrapped_above xs ys)
    (rows_written c.args.pen.now xs ys) l.pen l.wrapped_above
    (rows_end width l.row l.pen l.wrapped_above xs ys (omega arith)) l.invariant.leads

pub returns-clause-pen : goal.returns-clause-pen
returns-clause-pen c whole =
    let l = c.loop-row in
    let xs = c.args.view.now.rows in
    let ys = c.args.prev.now.rows in
    let width = c.args.view.now.width in
    let size = c.rows-last.ensures.value in
    let past = c.loop-row-test.false in
    ap (λ w. w.pen) (sym (rows_end width l.row l.pen l.wrapped_above xs ys (omega arith))) ∙ l.invariant.leads.pen
