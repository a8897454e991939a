use Rattle.std.proofs.Common.{◌∙◌, append-nil, rules, sym}
use Rattle.vt_redraw.proofs.Writing.{change_none}
use Rattle.vt_redraw.proofs.pen.write_change_in.Goals as goal

pub returns-then-is_same : goal.returns-then-is_same
returns-then-is_same g c = record {
  text =
      rw (change_none c.args.form c.args.was c.args.new (sym c.is_same.ensures ∙ c.if-is_same.true))
      (sym (append-nil _));
  nonempty = search rules;
}
