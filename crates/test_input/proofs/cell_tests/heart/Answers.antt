-- A glyph with U+FE0F may have either width.
use Rattle.std.proofs.Common.{◌≡◌, ◌≢◌, ◌∙◌, ℕ, ap, arith, sym, refl, subst, false, Some}
use Rattle.std.specs.Char.{encode_utf8}
use Rattle.unicode_width.proofs.Computing.{unicode_width}
use Rattle.vt_cells.specs.Cell.{CellValue, IsCell, cell_with_mark, cell_made_wide}
use Rattle.vt_cells.specs.Glyph.{columns_of}
use Rattle.vt_cells.proofs.Glyphs.{IsGlyphText-first, IsGlyphText-selector}
use Rattle.test_input.proofs.cell_tests.heart.Goals as goal

heart_columns : columns_of 0x2764 ≡ Some 1
unfolding columns_of unicode_width
heart_columns = refl

heart_shown : ◌≢◌ {A = ℕ} 0x2764 0xFFFD
heart_shown e = omega (arith, e)

pub set_wide-requires : goal.set_wide-requires
unfolding encode_utf8
set_wide-requires c =
    subst (λ (cell : CellValue). IsCell (cell_made_wide c.args.wide cell))
    (sym (c.append.ensures ∙ ap (cell_with_mark 0xFE0F) c.glyph-cell.ensures))
    (IsGlyphText-selector (encode_utf8 0x2764) false c.args.wide
    (IsGlyphText-first 0x2764 false refl heart_shown heart_columns) refl)
