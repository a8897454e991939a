use Rattle.std.proofs.Common.{Option, subst}
use Rattle.vt_mirror.specs.Calls.{Answers, default_options}
use Rattle.vt_mirror.specs.declared.update.Update.{Update}
use Rattle.vt_mirror.proofs.Updating.{update_part, update_written}
use Rattle.vt_mirror.proofs.engine.write_update.Goals as goal

pub returns-clause-writes : goal.returns-clause-writes
returns-clause-writes g c =
    update_written c.args.mirror.now c.args.viewer c.update.new.self c.in-Some.update c.text.result.now
    (g.W.Write.contents c.args.writer.now) (g.W.Write.contents c.write_text.new.writer) c.write_text.result
    (subst (λ (o : Option Update). Answers default_options c.args.mirror.now c.args.viewer o c.update.new.self)
    c.in-Some.is c.in-Ok.ensures.call.answers)
    c.text.ensures c.write_text.ensures.text

pub returns-clause-part : goal.returns-clause-part
returns-clause-part g c =
    update_part c.args.mirror.now c.args.viewer c.update.new.self c.in-Some.update c.text.result.now
    (g.W.Write.contents c.args.writer.now) (g.W.Write.contents c.write_text.new.writer) c.write_text.result
    (subst (λ (o : Option Update). Answers default_options c.args.mirror.now c.args.viewer o c.update.new.self)
    c.in-Some.is c.in-Ok.ensures.call.answers)
    c.text.ensures c.write_text.ensures.part
