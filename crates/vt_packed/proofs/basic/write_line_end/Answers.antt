use Rattle.std.proofs.Common.{[], ◌∷◌, arith}
use Rattle.std.proofs.lemmas.Result.{on_err_weaker}
use Rattle.vt_cells.proofs.Sinks.{stopped_first}
use Rattle.vt_packed.proofs.basic.write_line_end.Goals as goal

pub returns-then-is_due-clause-stopped : goal.returns-then-is_due-clause-stopped
returns-then-is_due-clause-stopped g c =
    on_err_weaker c.write_str.result
    (λ refused. rw c.if-is_due.true
    (stopped_first g.S.Sink.refuses (g.S.Sink.text c.args.sink.now) (0x0A ∷ []) [] (g.S.Sink.text c.write_str.new.self)
    (omega arith) refused))
    c.write_str.ensures.err
