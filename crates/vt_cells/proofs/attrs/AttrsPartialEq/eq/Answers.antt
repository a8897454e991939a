use Rattle.std.proofs.Common.{sym, ◌∙◌}
use Rattle.vt_cells.proofs.Attributes.{attrs_eq-same}
use Rattle.vt_cells.proofs.attrs.AttrsPartialEq.eq.Goals as goal

pub returns-clause-value : goal.returns-clause-value
returns-clause-value c = c.is_same.ensures ∙ sym (attrs_eq-same c.args.self.now c.args.other.now)
