use Rattle.std.proofs.Common.{rules, ◌≡◌, ◌<◌, ◌≤◌, ◌∙◌, ap, sym, length, false, slice_index_or}
use Rattle.vt_cells.specs.Attrs.{Attrs, same_attrs}
use Rattle.vt_cells.specs.Cell.{attrs_of, is_wide, text_of}
use Rattle.vt_screen.proofs.ReadGaps.{byte_glyph}
use Rattle.vt_screen.proofs.short_moves.gaps.is_byte_glyph.Goals as goal

pub returns : goal.returns
returns c =
    let text : c.as_bytes-text.result.now ≡ text_of c.args.cell.now = search rules in
    let narrow : is_wide c.args.cell.now ≡ false = search rules in
    let one : length c.as_bytes-text.result.now ≡ 1 = search rules in
    let low : 32 ≤ slice_index_or c.as_bytes-text.result.now 0 0 = search rules in
    let high : slice_index_or c.as_bytes-text.result.now 0 0 < 127 = search rules in
    λ t. byte_glyph c.args.cell.now c.as_bytes-text.result.now text narrow one low high
    (ap (λ (a : Attrs). same_attrs a (attrs_of c.args.cell.now)) (sym c.new.ensures) ∙ (sym c.has_attrs.ensures ∙ t))
