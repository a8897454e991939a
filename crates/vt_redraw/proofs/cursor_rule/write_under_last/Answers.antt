use Rattle.std.proofs.Common.{◌∙◌, ◌++◌, ◌<◌, ap, length, rules, subst}
use Rattle.std.proofs.lemmas.Result.{on_err_weaker, on_ok_weaker}
use Rattle.vt_cells.proofs.Sinks.{on_err}
use Rattle.vt_cells.specs.Op.{bytes_of_all}
use Rattle.vt_rows.specs.Row.{RowValue}
use Rattle.vt_redraw.specs.Redraw.{under_last}
use Rattle.vt_redraw.proofs.WriterSteps.{feeds_some, under_last_some, under_last_text}
use Rattle.vt_redraw.proofs.cursor_rule.write_under_last.Goals as goal

pub returns-in_err-write_change_in : goal.returns-in_err-write_change_in
returns-in_err-write_change_in g c = record {
  text = search rules;
  nonempty =
      on_err c.from_residual-in_err-write_change_in.result
      (subst (λ (z : RowValue). 0 < length (bytes_of_all (under_last c.args.pen c.args.found c.args.row z.cells)))
      c.row.ensures.value
      (under_last_some c.args.pen c.write_last.new.pen c.args.found c.args.row c.row.result.cells
      c.in_ok-write_last.ensures.pen c.in_err-write_change_in.ensures.nonempty));
}

pub returns : goal.returns
returns g c =
    let text = g.S.Sink.text in
    record {
      text =
          on_ok_weaker c.write_feeds.result
          (λ fed. under_last_text c.args.pen c.write_last.new.pen c.args.found c.args.row c.row.result.cells
          (text c.args.sink.now) (text c.write_last.new.sink)
          (text c.write_change_in.new.sink) (text c.write_feeds.new.sink)
          c.in_ok-write_last.ensures.ops.text c.in_ok-write_last.ensures.pen c.in_ok-write_change_in.ensures.text fed
          ∙ ap (λ (z : RowValue). text c.args.sink.now
          ++ bytes_of_all (under_last c.args.pen c.args.found c.args.row z.cells)) c.row.ensures.value)
          c.write_feeds.ensures.text;
      nonempty =
          on_err_weaker c.write_feeds.result
          (λ some. subst (λ (z : RowValue). 0
          < length (bytes_of_all (under_last c.args.pen c.args.found c.args.row z.cells))) c.row.ensures.value
          (feeds_some c.args.pen c.args.found c.args.row c.row.result.cells some))
          c.write_feeds.ensures.nonempty;
    }
