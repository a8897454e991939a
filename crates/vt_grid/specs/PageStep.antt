-- The effect of each `PageStep` on a page.
use Rattle.vt_cells.specs.Attrs.{Attrs}
use Rattle.vt_grid.specs.Page.{Page}
use Rattle.vt_grid.specs.declared.page_step.PageStep.{PageStep}
use Rattle.vt_grid.specs.declared.page_step.PageStep.TheVariants.{Move, ReverseIndex, SetRegion, UseOrigin}
use Rattle.vt_grid.specs.declared.page_step.PageStep.TheVariants.{EraseBelow, EraseAbove, ErasePage, EraseRest}
use Rattle.vt_grid.specs.declared.page_step.PageStep.TheVariants.{EraseStart, EraseRow, EraseChars, InsertChars}
use Rattle.vt_grid.specs.declared.page_step.PageStep.TheVariants.{DeleteChars, InsertLines, DeleteLines, ScrollDown}
use Rattle.vt_grid.specs.Moves.{moved, origin_set}
use Rattle.vt_grid.specs.Regions.{region_set}
use Rattle.vt_grid.specs.Shifts.{reverse_index, scrolled_down, lines_inserted}
use Rattle.vt_grid.specs.Shifts.{lines_deleted, chars_inserted, chars_deleted}
use Rattle.vt_grid.specs.Erasing.{erased_below, erased_above, erased_page, erased_rest}
use Rattle.vt_grid.specs.Erasing.{erased_start, erased_row, erased_chars}

-- The page after a step. Erased cells become blanks with the given attributes.
abbrev pub page_after : Attrs → PageStep → Page → Page
page_after attrs (Move move) page = moved move page
page_after attrs ReverseIndex page = reverse_index page
page_after attrs (SetRegion top bottom) page = region_set top bottom page
page_after attrs (UseOrigin on) page = origin_set on page
page_after attrs EraseBelow page = erased_below attrs page
page_after attrs EraseAbove page = erased_above attrs page
page_after attrs ErasePage page = erased_page attrs page
page_after attrs EraseRest page = erased_rest attrs page
page_after attrs EraseStart page = erased_start attrs page
page_after attrs EraseRow page = erased_row attrs page
page_after attrs (EraseChars count) page = erased_chars count attrs page
page_after attrs (InsertChars count) page = chars_inserted count page
page_after attrs (DeleteChars count) page = chars_deleted count page
page_after attrs (InsertLines count) page = lines_inserted count page
page_after attrs (DeleteLines count) page = lines_deleted count page
page_after attrs (ScrollDown count) page = scrolled_down count page
