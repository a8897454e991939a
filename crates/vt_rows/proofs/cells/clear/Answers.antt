use Rattle.std.proofs.Common.{length, ap, sym, ◌∙◌}
use Rattle.vt_cells.specs.Attrs.{Attrs, default_attrs, same_attrs}
use Rattle.vt_cells.proofs.Attributes.{attrs_of-same}
use Rattle.vt_rows.specs.Cells.{blanks}
use Rattle.vt_rows.proofs.cells.clear.Goals as goal

pub returns-then-is_same : goal.returns-then-is_same
returns-then-is_same c =
    let same = ap (same_attrs c.args.attrs) (sym c.new.ensures) ∙ sym c.is_same.ensures ∙ c.if-is_same.true in
    c.clear_default.ensures
    ∙ ap (λ (a : Attrs). blanks a (length c.args.cells.now)) (sym (attrs_of-same c.args.attrs default_attrs same))
