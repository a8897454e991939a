use Rattle.std.proofs.Common.{length, ap, arith, refl, rules}
use Rattle.vt_cells.proofs.Sinks.{on_err}
use Rattle.vt_redraw.proofs.WriterSteps.{some_first}
use Rattle.vt_redraw.proofs.Writing.{placed_gathered}
use Rattle.vt_cells.proofs.Cells.{text_short}
use Rattle.vt_cells.specs.Cell.{attrs_of, text_of}
use Rattle.vt_cells.specs.Op.{Print}
use Rattle.vt_redraw.specs.Script.{attr_ops_in, move_ops}
use Rattle.vt_redraw.proofs.cells.gather_at.Goals as goal

pub returns-in_err-make_room-clause-gathers : goal.returns-in_err-make_room-clause-gathers
returns-in_err-make_room-clause-gathers g c = record {
  text = search rules;
  grows = search rules;
  nonempty = on_err c.from_residual.result (some_first c.args.buffer.now _ (c.in_err-make_room.ensures.nonempty refl));
}

pub push-requires : goal.push-requires
push-requires g c =
    let short = text_short c.args.cell.now c.contents.ensures.sound in
    let same = ap length c.contents.ensures.value in
    let room = c.in_ok-make_room.ensures.room in
    let moved = c.push_move.ensures.room in
    let changed = c.push_attrs.ensures.room in
    omega arith

pub returns-clause-gathers : goal.returns-clause-gathers
returns-clause-gathers g c =
    let pen = c.args.pen.now in
    let pos = c.args.pos in
    let x = c.args.cell.now in
    record {
      text =
          placed_gathered (g.S.Sink.text c.make_room.new.sink) _ c.make_room.new.self c.push_move.new.buffer
          c.push_attrs.new.buffer c.push.new.self (move_ops pen pos.row pos.col) (attr_ops_in pen.form pen.attrs (attrs_of x))
          (Print (text_of x)) c.in_ok-make_room.ensures.text c.push_move.ensures.text (search rules) (search rules);
      grows = c.in_ok-make_room.ensures.grows;
      nonempty = search rules;
    }
