use Rattle.std.proofs.Common.{◌∙◌, sym, arith}
use Rattle.std.proofs.lemmas.Bool.{and_parts}
use Rattle.std.proofs.lemmas.List.{get_or_default}
use Rattle.vt_cells.specs.Cell.{default_blank}
use Rattle.vt_rows.proofs.Rows.{default_same, four_blanks}
use Rattle.vt_rows.proofs.trimming.four_default.Goals as goal

pub returns : goal.returns
returns c holds =
    let cells = c.args.cells.now in
    let three = and_parts _ _ holds in
    let two = and_parts _ _ three.0 in
    let one = and_parts _ _ two.0 in
    four_blanks cells c.requires
    (sym (c.index-cells-0.is ∙ get_or_default cells 0 c.index-cells-0.result default_blank (omega (arith, c.requires)))
    ∙ default_same c.index-cells-0.result (sym c.is_default.ensures ∙ one.0))
    (sym (c.index-cells-1.is ∙ get_or_default cells 1 c.index-cells-1.result default_blank (omega (arith, c.requires)))
    ∙ default_same c.index-cells-1.result (sym c.is_default-2.ensures ∙ one.1))
    (sym (c.index-cells-2.is ∙ get_or_default cells 2 c.index-cells-2.result default_blank (omega (arith, c.requires)))
    ∙ default_same c.index-cells-2.result (sym c.is_default-3.ensures ∙ two.1))
    (sym (c.index-cells-3.is ∙ get_or_default cells 3 c.index-cells-3.result default_blank (omega (arith, c.requires)))
    ∙ default_same c.index-cells-3.result (sym c.is_default-4.ensures ∙ three.1))
