use Rattle.std.proofs.Common.{[], List, ℕ, refl, subst, append-nil, arith}
use Rattle.std.proofs.lemmas.Result.{on_err_weaker}
use Rattle.vt_cells.specs.Internals.{buffered_text}
use Rattle.vt_cells.specs.Sinks.{IsStopped}
use Rattle.vt_cells.proofs.Sinks.{on_err, stopped_after, stopped_first}
use Rattle.vt_cells.proofs.buffer.Buffer.add.Goals as goal

pub returns-in_err-flush-clause-err : goal.returns-in_err-flush-clause-err
returns-in_err-flush-clause-err g c =
    on_err c.from_residual.result (stopped_first g.S.Sink.refuses (g.S.Sink.text c.args.sink.now) c.args.self.now
    c.args.text.now (g.S.Sink.text c.flush.new.sink)
    (c.in_err-flush.ensures.nonempty refl) c.in_err-flush.ensures.err)

pub returns-then-text-room-clause-err : goal.returns-then-text-room-clause-err
unfolding buffered_text
returns-then-text-room-clause-err g c =
    let start = g.S.Sink.text c.args.sink.now in
    let mid = g.S.Sink.text c.flush.new.sink in
    let after = g.S.Sink.text c.write_str.new.self in
    let text = c.args.text.now in
    on_err_weaker c.write_str.result
    (λ refused. stopped_after g.S.Sink.refuses start mid c.args.self.now text after c.in_ok-flush.ensures.text
    (subst (λ (xs : List ℕ). IsStopped g.S.Sink.refuses mid xs after) (append-nil text)
    (stopped_first g.S.Sink.refuses mid text [] after (omega (arith, c.if-text-room.true)) refused)))
    c.write_str.ensures.err
