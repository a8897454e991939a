use Rattle.std.proofs.Common.{◌∙◌, ap, sym, append-nil}
use Rattle.vt_cells.proofs.Attributes.{attrs_of-same}
use Rattle.vt_redraw.specs.Script.{pen_with}
use Rattle.vt_redraw.proofs.Writing.{change_none}
use Rattle.vt_redraw.proofs.pen.Pen.push_attrs.Goals as goal

pub returns-then-is_same-clause-text : goal.returns-then-is_same-clause-text
returns-then-is_same-clause-text c =
    rw (change_none c.args.self.now.form c.args.self.now.attrs c.args.new (sym c.is_same.ensures ∙ c.if-is_same.true))
    (sym (append-nil _))

pub returns-then-is_same-clause-pen : goal.returns-then-is_same-clause-pen
returns-then-is_same-clause-pen c =
    ap (λ attrs. pen_with c.args.self.now attrs)
    (attrs_of-same _ _ (sym c.is_same.ensures ∙ c.if-is_same.true))
