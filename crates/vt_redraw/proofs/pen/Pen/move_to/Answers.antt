use Rattle.std.proofs.Common.{◌∙◌, append-nil, rules, sym}
use Rattle.vt_redraw.proofs.Writing.{going_none, known_pen}
use Rattle.vt_redraw.proofs.pen.Pen.move_to.Goals as goal

pub returns-then-is_known_at-clause-ops : goal.returns-then-is_known_at-clause-ops
returns-then-is_known_at-clause-ops g c = record {
  text =
      rw (going_none c.args.self.now c.args.to.row c.args.to.col (sym c.is_known_at.ensures ∙ c.if-is_known_at.true))
      (sym (append-nil _));
  nonempty = search rules;
}

pub returns-then-is_known_at-clause-pen : goal.returns-then-is_known_at-clause-pen
returns-then-is_known_at-clause-pen g c =
    known_pen c.args.self.now c.args.to.row c.args.to.col (sym c.is_known_at.ensures ∙ c.if-is_known_at.true)
