use Rattle.std.proofs.Common.{◌++◌, ◌∙◌, List, ℕ, ap, refl}
use Rattle.vt_cells.specs.Internals.{buffered_text}
use Rattle.vt_cells.specs.Op.{change_text}
use Rattle.vt_cells.proofs.Sinks.{gathered_then, on_err, stopped_first}
use Rattle.vt_cells.proofs.term.changes.ChangeAttrs.add.Goals as goal

pub returns-in_err-make_room-clause-err : goal.returns-in_err-make_room-clause-err
returns-in_err-make_room-clause-err g c =
    on_err c.from_residual.result
    (stopped_first g.S.Sink.refuses (g.S.Sink.text c.args.sink.now) c.args.buffer.now
    (change_text c.args.self.now.was c.args.self.now.new) (g.S.Sink.text c.make_room.new.sink)
    (c.in_err-make_room.ensures.nonempty refl) c.in_err-make_room.ensures.err)

pub returns-clause-text : goal.returns-clause-text
returns-clause-text g c =
    let text = change_text c.args.self.now.was c.args.self.now.new in
    let sink = g.S.Sink.text c.make_room.new.sink in
    ap (buffered_text sink) c.push.ensures.value
    ∙ (gathered_then sink c.make_room.new.self text
    ∙ ap (λ (xs : List ℕ). xs ++ text) c.in_ok-make_room.ensures.text)
