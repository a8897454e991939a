-- Screens that don't contain U+FE0F.
use Rattle.std.specs.Prelude.{◌≡◌, ◌≢◌, false, List, Some, IfSome, All, chars}
use Rattle.std.specs.List.{list_any}
use Rattle.vt_cells.specs.Cell.{CellValue, text_of}
use Rattle.vt_cells.specs.Glyph.{is_selector}
use Rattle.vt_rows.specs.Row.{RowValue}
use Rattle.vt_screen.specs.Screen.{ScreenValue}

-- No character of the cell's text is U+FE0F.
abbrev pub CellHasNoSelector : CellValue → Type 0
CellHasNoSelector cell = list_any is_selector (chars (text_of cell)) ≡ false

abbrev pub RowsHaveNoSelector : List RowValue → Type 0
RowsHaveNoSelector rows = All (λ row. All CellHasNoSelector row.cells) rows

-- No cell of either page or of scrollback contains U+FE0F, and the last printed character is not U+FE0F.
pub record HasNoSelectors (screen : ScreenValue) : Type 0 where
  pub rows : RowsHaveNoSelector screen.page.rows
  pub other : IfSome screen.other (λ page. RowsHaveNoSelector page.rows)
  pub above : RowsHaveNoSelector screen.scrollback.rows
  pub last : screen.last ≢ Some 0xFE0F
