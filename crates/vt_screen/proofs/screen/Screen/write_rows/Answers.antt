use Rattle.std.proofs.Common.{rules, ◌≡◌, ◌+◌, ◌++◌, ◌∷◌, [], List, get_or, ap, ◌∙◌, sym, arith}
use Rattle.std.specs.List.{slice_range}
use Rattle.vt_rows.specs.Row.{RowValue}
use Rattle.vt_screen.specs.Capture.{all_rows}
use Rattle.vt_cells.proofs.Sinks.{on_err}
use Rattle.vt_screen.proofs.MadeCaptures.{above_rows, after_step, slice_more, stopped_behind, texts_step}
use Rattle.vt_screen.proofs.screen.Screen.write_rows.Goals as goal

pub stacked_row-row-requires-clause-sound : goal.stacked_row-row-requires-clause-sound
stacked_row-row-requires-clause-sound g c = rw (c.rows.ensures.rows, c.rows.ensures.width) c.self.invariant.sound.rows

pub returns-in_err-write_formatted_basic : goal.returns-in_err-write_formatted_basic
returns-in_err-write_formatted_basic g c =
    let inv = c.loop-index.invariant in
    let row = c.stacked_row-row.result in
    let above = above_rows c.self.inside.is_alternate c.self.inside.scrollback
    c.self.inside.other_scrollback c.self.invariant.nothing in
    let all : all_rows c.args.self.now ≡ c.self.inside.scrollback.rows ++ c.rows.result.now.rows =
    sym (ap all_rows c.self.view_is) ∙ ap (λ (rows : List RowValue). rows ++ c.self.inside.grid.rows) above
    ∙ ap (λ (rows : List RowValue). c.self.inside.scrollback.rows ++ rows) (sym c.rows.ensures.rows) in
    let same : get_or (all_rows c.args.self.now) c.loop-index.index row ≡ row =
    ap (λ rows. get_or rows c.loop-index.index row) all ∙ sym (c.stacked_row-row.ensures row) in
    record {
      text = search rules;
      state = search rules;
      err =
          on_err c.from_residual.result
          (stopped_behind g.S.Sink.refuses (g.S.Sink.text c.args.sink.now) (g.S.Sink.text c.loop-index.sink)
          (g.S.Sink.text c.write_formatted_basic.new.sink) c.args.state.now c.loop-index.state
          c.write_formatted_basic.new.state (all_rows c.args.self.now) c.args.start c.loop-index.index c.args.end
          row inv.low c.loop-index-test.true inv.inside same inv.bytes inv.written
          c.in_err-write_formatted_basic.ensures.err c.in_err-write_formatted_basic.ensures.nonempty
          c.in_err-write_formatted_basic.ensures.stopped);
    }

pub loop-index-preserved : goal.loop-index-preserved
loop-index-preserved g c =
    let inv = c.loop-index.invariant in
    let row = c.stacked_row-row.result in
    let above = above_rows c.self.inside.is_alternate c.self.inside.scrollback
    c.self.inside.other_scrollback c.self.invariant.nothing in
    let all : all_rows c.args.self.now ≡ c.self.inside.scrollback.rows ++ c.rows.result.now.rows =
    sym (ap all_rows c.self.view_is) ∙ ap (λ (rows : List RowValue). rows ++ c.self.inside.grid.rows) above
    ∙ ap (λ (rows : List RowValue). c.self.inside.scrollback.rows ++ rows) (sym c.rows.ensures.rows) in
    let same : get_or (all_rows c.args.self.now) c.loop-index.index row ≡ row =
    ap (λ rows. get_or rows c.loop-index.index row) all ∙ sym (c.stacked_row-row.ensures row) in
    let more : slice_range (all_rows c.args.self.now) c.args.start (c.loop-index.index + 1)
    ≡ slice_range (all_rows c.args.self.now) c.args.start c.loop-index.index ++ row ∷ [] =
    slice_more (all_rows c.args.self.now) c.args.start c.loop-index.index
    row inv.low (omega (arith, c.loop-index-test.true, inv.inside))
    ∙ ap (λ (x : RowValue). slice_range (all_rows c.args.self.now) c.args.start c.loop-index.index ++ x ∷ []) same in
    record {
      low = omega (arith, inv.low);
      high = omega (arith, c.loop-index-test.true);
      inside = inv.inside;
      bytes =
          texts_step c.args.state.now c.loop-index.state _ _ _ _ _ row
          inv.bytes inv.written c.in_ok-write_formatted_basic.ensures.ok more;
      written =
          after_step c.args.state.now c.loop-index.state _ _ _ row
          inv.written c.in_ok-write_formatted_basic.ensures.state more;
    }
