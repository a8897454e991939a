use Rattle.std.proofs.Common.{◌∙◌, append-nil, sym}
use Rattle.vt_redraw.proofs.Writing.{going_none, known_pen}
use Rattle.vt_redraw.proofs.pen.Pen.push_move.Goals as goal

pub returns-then-is_known_at-clause-text : goal.returns-then-is_known_at-clause-text
returns-then-is_known_at-clause-text c =
    rw (going_none c.args.self.now c.args.to.row c.args.to.col (sym c.is_known_at.ensures ∙ c.if-is_known_at.true))
    (sym (append-nil _))

pub returns-then-is_known_at-clause-pen : goal.returns-then-is_known_at-clause-pen
returns-then-is_known_at-clause-pen c =
    known_pen c.args.self.now c.args.to.row c.args.to.col (sym c.is_known_at.ensures ∙ c.if-is_known_at.true)
