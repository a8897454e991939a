use Rattle.std.proofs.Common.{◌≡◌, ◌&&◌, ◌∙◌, sym, ap, not, true}
use Rattle.vt_cells.specs.Cell.{is_glyph, same_cell}
use Rattle.vt_cells.proofs.Cells.{same_cell-eq}
use Rattle.vt_rows.specs.Cells.{at}
use Rattle.vt_redraw.proofs.Filling.{starts_at}
use Rattle.vt_redraw.proofs.links.starts_other.Goals as goal

pub returns-then-has_contents : goal.returns-then-has_contents
returns-then-has_contents c =
    let xs = c.args.cells.now.cells in
    let ys = c.args.over.now.cells in
    let x = at xs 0 in
    let y = at ys 0 in
    let glyph : is_glyph x ≡ true =
    ap is_glyph (sym c.cell-cell.ensures) ∙ (sym c.has_contents.ensures ∙ c.if-has_contents.true) in
    ap not (c.eq.ensures
    ∙ (sym (same_cell-eq c.cell-cell.result.now c.cell.result.now)
    ∙ (ap (λ z. same_cell z c.cell.result.now) c.cell-cell.ensures ∙ ap (λ z. same_cell x z) c.cell.ensures)))
    ∙ (sym (ap (λ b. b && not (same_cell x y)) glyph) ∙ sym (starts_at xs ys c.requires.nonempty c.requires.over))
