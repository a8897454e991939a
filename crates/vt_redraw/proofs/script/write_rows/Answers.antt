use Rattle.std.proofs.Common.{[], ◌+◌, ◌++◌, ap, rules, sym, ◌∙◌, arith}
use Rattle.vt_cells.proofs.Sinks.{on_err}
use Rattle.vt_cells.specs.Op.{bytes_of_all}
use Rattle.vt_grid.specs.Page.{row_or}
use Rattle.vt_redraw.specs.Internals.{rows_under}
use Rattle.vt_redraw.specs.Redraw.{link_of, row_written, rows_written}
use Rattle.vt_redraw.proofs.CellSteps.{leads_text, leads_then}
use Rattle.vt_redraw.proofs.WriterSteps.{after_some, grown, link_made, linked_all, rest_some, some_first, start_some}
use Rattle.vt_redraw.proofs.WriterSteps.{wrote_all, below_leads, rows_end, top_leads}
use Rattle.vt_redraw.proofs.script.write_rows.Goals as goal

pub returns-in_err-wrapped_above-clause-ops : goal.returns-in_err-wrapped_above-clause-ops
returns-in_err-wrapped_above-clause-ops g c =
    let width = c.args.view.now.width in
    let xs = c.args.view.now.rows in
    let ys = c.args.prev.now.rows in
    let x = c.row-above.result in
    let y = c.row.result in
    let row = row_written 0 0 c.args.pen.now y.wrapped x y.cells in
    record {
      text = search rules;
      nonempty =
          on_err c.from_residual.result
          (start_some (bytes_of_all row.ops) _ _
          (top_leads width c.args.pen.now row.pen row.wrapped xs ys x y [] (bytes_of_all row.ops)
          c.rows-last.ensures.nonempty c.requires.size.height c.row-above.ensures.value
          (c.row.ensures.value ∙ ap (λ n. row_or n ys 0) (sym c.requires.size.width)) (wrote_all [] row))
          c.in_err-wrapped_above.ensures.nonempty);
    }

pub loop-row-init : goal.loop-row-init
loop-row-init g c =
    let text = g.S.Sink.text in
    let ys = c.args.prev.now.rows in
    record {
      leads =
          top_leads c.args.view.now.width c.args.pen.now c.write_top.new.pen c.in_ok-wrapped_above.wrapped_above
          c.args.view.now.rows ys c.row-above.result c.row.result (text c.args.sink.now) (text c.write_top.new.sink)
          c.rows-last.ensures.nonempty c.requires.size.height c.row-above.ensures.value
          (c.row.ensures.value ∙ ap (λ n. row_or n ys 0) (sym c.requires.size.width))
          c.in_ok-wrapped_above.ensures.writes;
      grows = grown _ _ _ c.in_ok-wrapped_above.ensures.writes.bytes;
      above = c.row-above.ensures.value;
      sound = c.row-above.ensures.sound;
      nonempty = c.row-above.ensures.nonempty;
    }

pub returns-in_err-link-clause-ops : goal.returns-in_err-link-clause-ops
returns-in_err-link-clause-ops g c =
    let l = c.loop-row in
    let text = g.S.Sink.text in
    let r = l.row in
    let width = c.args.view.now.width in
    let xs = c.args.view.now.rows in
    let ys = c.args.prev.now.rows in
    let x = c.row-cells.result in
    let y = c.row-over.result in
    let link = link_of r l.pen l.above l.wrapped_above x y in
    let first = bytes_of_all link.ops in
    let row = row_written (r + 1) link.settled link.pen link.wrapped x y.cells in
    let size = c.rows-last.ensures.value in
    let before = c.loop-row-test.true in
    record {
      text = search rules;
      nonempty =
          on_err c.from_residual-in_err-link.result
          (rest_some (text c.args.sink.now) (text l.sink) (rows_under r width l.pen l.wrapped_above xs ys) _
          l.invariant.leads l.invariant.grows
          (start_some (first ++ bytes_of_all row.ops) (rows_under (r + 1) width row.pen row.wrapped xs ys) _
          (below_leads width r l.pen link.pen row.pen l.wrapped_above row.wrapped (link_made link) xs ys l.above
          x y [] first (first ++ bytes_of_all row.ops) (omega arith) c.requires.size.height l.invariant.above
          c.row-cells.ensures.value
          (c.row-over.ensures.value ∙ ap (λ n. row_or n ys (r + 1)) (sym c.requires.size.width))
          (linked_all [] link) (wrote_all first row))
          (some_first first (bytes_of_all row.ops) c.in_err-link.ensures.nonempty)));
    }

pub returns-in_err-wrapped_above-2-clause-ops : goal.returns-in_err-wrapped_above-2-clause-ops
returns-in_err-wrapped_above-2-clause-ops g c =
    let l = c.loop-row in
    let text = g.S.Sink.text in
    let r = l.row in
    let width = c.args.view.now.width in
    let xs = c.args.view.now.rows in
    let ys = c.args.prev.now.rows in
    let x = c.row-cells.result in
    let y = c.row-over.result in
    let link = c.in_ok-link.link in
    let pen = c.write_link.new.pen in
    let mid = text c.write_link.new.sink in
    let row = row_written (r + 1) link.settled pen link.wrapped x y.cells in
    let size = c.rows-last.ensures.value in
    let before = c.loop-row-test.true in
    record {
      text = search rules;
      nonempty =
          on_err c.from_residual-in_err-wrapped_above-2.result
          (rest_some (text c.args.sink.now) (text l.sink) (rows_under r width l.pen l.wrapped_above xs ys) _
          l.invariant.leads l.invariant.grows
          (after_some (text l.sink) mid (bytes_of_all row.ops) (rows_under (r + 1) width row.pen row.wrapped xs ys) _
          (below_leads width r l.pen pen row.pen l.wrapped_above row.wrapped link xs ys l.above x y (text l.sink) mid
          (mid ++ bytes_of_all row.ops) (omega arith) c.requires.size.height l.invariant.above c.row-cells.ensures.value
          (c.row-over.ensures.value ∙ ap (λ n. row_or n ys (r + 1)) (sym c.requires.size.width))
          c.in_ok-link.ensures.links (wrote_all mid row))
          (grown _ _ _ c.in_ok-link.ensures.links.bytes) c.in_err-wrapped_above-2.ensures.nonempty));
    }

pub loop-row-preserved : goal.loop-row-preserved
loop-row-preserved g c =
    let l = c.loop-row in
    let text = g.S.Sink.text in
    let r = l.row in
    let width = c.args.view.now.width in
    let xs = c.args.view.now.rows in
    let ys = c.args.prev.now.rows in
    let size = c.rows-last.ensures.value in
    let before = c.loop-row-test.true in
    let mid = text c.write_link.new.sink in
    let now = text c.write_row.new.sink in
    let link = link_of r l.pen l.above l.wrapped_above c.row-cells.result c.row-over.result in
    let row = row_written (r + 1) c.in_ok-link.link.settled c.write_link.new.pen c.in_ok-link.link.wrapped
    c.row-cells.result c.row-over.result.cells in
    let first = grown (text l.sink) (bytes_of_all link.ops) mid c.in_ok-link.ensures.links.bytes in
    let then = grown mid (bytes_of_all row.ops) now c.in_ok-wrapped_above-2.ensures.writes.bytes in
    let so_far = l.invariant.grows in
    record {
      leads =
          leads_then (text c.args.sink.now) (text l.sink) now (rows_written c.args.pen.now xs ys)
          (rows_under r width l.pen l.wrapped_above xs ys)
          (rows_under (r + 1) width c.write_row.new.pen c.in_ok-wrapped_above-2.wrapped_above xs ys) l.invariant.leads
          (below_leads width r l.pen c.write_link.new.pen c.write_row.new.pen l.wrapped_above
          c.in_ok-wrapped_above-2.wrapped_above c.in_ok-link.link
          xs ys l.above c.row-cells.result c.row-over.result (text l.sink) mid now (omega arith)
          c.requires.size.height l.invariant.above c.row-cells.ensures.value
          (c.row-over.ensures.value ∙ ap (λ n. row_or n ys (r + 1)) (sym c.requires.size.width))
          c.in_ok-link.ensures.links c.in_ok-wrapped_above-2.ensures.writes);
      grows = omega (arith, first, then, so_far);
      above = c.row-cells.ensures.value;
      sound = c.row-cells.ensures.sound;
      nonempty = c.row-cells.ensures.nonempty;
    }

pub returns-clause-ops : goal.returns-clause-ops
returns-clause-ops g c =
    let l = c.loop-row in
    let text = g.S.Sink.text in
    let xs = c.args.view.now.rows in
    let ys = c.args.prev.now.rows in
    let width = c.args.view.now.width in
    let size = c.rows-last.ensures.value in
    let past = c.loop-row-test.false in
    record {
      text =
          leads_text (text l.sink) (text c.args.sink.now) (rows_under l.row width l.pen l.wrapped_above xs ys)
          (rows_written c.args.pen.now xs ys) l.pen l.wrapped_above
          (rows_end width l.row l.pen l.wrapped_above xs ys (omega arith))
          l.invariant.leads;
      nonempty = search rules;
    }

pub returns-clause-pen : goal.returns-clause-pen
returns-clause-pen g c =
    let l = c.loop-row in
    let xs = c.args.view.now.rows in
    let ys = c.args.prev.now.rows in
    let width = c.args.view.now.width in
    let size = c.rows-last.ensures.value in
    let past = c.loop-row-test.false in
    ap (λ w. w.pen) (sym (rows_end width l.row l.pen l.wrapped_above xs ys (omega arith))) ∙ l.invariant.leads.pen
