use Rattle.std.proofs.Common.{◌+◌, drop, refl, rules}
use Rattle.vt_cells.proofs.Sinks.{on_err}
use Rattle.vt_redraw.proofs.WriterSteps.{some_first}
use Rattle.vt_redraw.proofs.Writing.{placed_gathered}
use Rattle.vt_redraw.specs.Script.{attr_ops_in, erase_run, move_ops}
use Rattle.vt_redraw.proofs.cells.gather_run.Goals as goal

pub returns-in_err-make_room-clause-gathers : goal.returns-in_err-make_room-clause-gathers
returns-in_err-make_room-clause-gathers g c = record {
  text = search rules;
  grows = search rules;
  nonempty = on_err c.from_residual.result (some_first c.args.buffer.now _ (c.in_err-make_room.ensures.nonempty refl));
}

pub returns-clause-gathers : goal.returns-clause-gathers
returns-clause-gathers g c =
    let pen = c.args.pen.now in
    let pos = c.args.pos in
    let count = c.args.count in
    record {
      text =
          placed_gathered (g.S.Sink.text c.make_room.new.sink) _ c.make_room.new.self c.push_move.new.buffer
          c.push_attrs.new.buffer c.push_erase.new.buffer (move_ops pen pos.row pos.col) (attr_ops_in pen.form pen.attrs c.args.attrs)
          (erase_run c.args.pen.now.form count (drop (pos.col + count) c.args.over.now.cells)) c.in_ok-make_room.ensures.text
          c.push_move.ensures.text (search rules) (search rules);
      grows = c.in_ok-make_room.ensures.grows;
      nonempty = search rules;
    }
