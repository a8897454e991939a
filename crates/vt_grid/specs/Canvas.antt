-- The canvas that a redraw draws on, and the effect of each operation on the canvas. A canvas consists of the active
-- page, the current and saved attributes, and the visibility of the cursor.
use Rattle.std.specs.Prelude.{ℕ, Bool, List, [], ◌∷◌, Option, Some, None, chars, zero, suc, if◌then◌else◌}
use Rattle.vt_cells.specs.Attrs.{default_attrs, changed_attrs, Attrs}
use Rattle.vt_cells.specs.Op.{Op, Hide, ClearAttrs, MoveTo, MoveRight, NextRow, LineFeed, Backspace}
use Rattle.vt_cells.specs.Op.{EraseBelow, EraseRest, EraseChars, SaveCursor, RestoreCursor, ChangeAttrs, Print}
use Rattle.vt_grid.specs.Page.{Page}
use Rattle.vt_grid.specs.Moves.{moved, line_feed, feeds_out, cursor_saved, cursor_restored}
use Rattle.vt_grid.specs.declared.grid.moves.CursorMove.TheVariants.{Return, Right, Left, To}
use Rattle.vt_grid.specs.Erasing.{erased_below, erased_rest, erased_chars}
use Rattle.vt_grid.specs.Printing.{page_after_print, pushes}

-- The state that the operations of a redraw change: the active page, the current and saved attributes, and whether the
-- cursor is hidden.
pub record Canvas : Type 0 where
  pub page : Page
  pub attrs : Attrs
  pub saved_attrs : Attrs
  pub hidden : Bool

-- The canvas after a character is drawn; `None` if drawing it scrolls a row off the page.
abbrev pub drawn_char : ℕ → Canvas → Option Canvas
drawn_char c canvas =
    if pushes c canvas.page then None else Some (record canvas { page = page_after_print c canvas.attrs canvas.page })

-- The result of applying a function to the value of an option; `None` if there is no value or the function returns
-- `None`.
abbrev pub and_then : {A B : Type 0} → (A → Option B) → Option A → Option B
and_then f (Some a) = f a
and_then f None = None

-- The canvas after a string is drawn character by character; `None` if drawing it scrolls a row off the page.
abbrev pub drawn_text : List ℕ → Canvas → Option Canvas
drawn_text [] canvas = Some canvas
drawn_text (c ∷ cs) canvas = and_then (drawn_text cs) (drawn_char c canvas)

-- The canvas after a line feed; `None` if the line feed scrolls a row off the page.
abbrev pub canvas_after_line_feed : Canvas → Option Canvas
canvas_after_line_feed canvas = if feeds_out canvas.page then None else Some (record canvas { page = line_feed canvas.page })

-- The canvas after an operation; `None` if the operation scrolls a row off the page. Saving and restoring the cursor
-- also saves and restores the attributes.
abbrev pub canvas_after_op : Op → Canvas → Option Canvas
canvas_after_op (Hide hidden) canvas = Some (record canvas { hidden = hidden })
canvas_after_op ClearAttrs canvas = Some (record canvas { attrs = default_attrs })
canvas_after_op (MoveTo row col) canvas = Some (record canvas { page = moved (To row col) canvas.page })
canvas_after_op (MoveRight zero) canvas = Some canvas
canvas_after_op (MoveRight (suc n)) canvas = Some (record canvas { page = moved (Right (suc n)) canvas.page })
canvas_after_op NextRow canvas = canvas_after_line_feed (record canvas { page = moved Return canvas.page })
canvas_after_op LineFeed canvas = canvas_after_line_feed canvas
canvas_after_op Backspace canvas = Some (record canvas { page = moved (Left 1) canvas.page })
canvas_after_op EraseBelow canvas = Some (record canvas { page = erased_below canvas.attrs canvas.page })
canvas_after_op EraseRest canvas = Some (record canvas { page = erased_rest canvas.attrs canvas.page })
canvas_after_op (EraseChars zero) canvas = Some canvas
canvas_after_op (EraseChars (suc n)) canvas = Some (record canvas { page = erased_chars (suc n) canvas.attrs canvas.page })
canvas_after_op SaveCursor canvas = Some (record canvas { page = cursor_saved canvas.page; saved_attrs = canvas.attrs })
canvas_after_op RestoreCursor canvas = Some (record canvas { page = cursor_restored canvas.page; attrs = canvas.saved_attrs })
canvas_after_op (ChangeAttrs was new) canvas = Some (record canvas { attrs = changed_attrs was new canvas.attrs })
canvas_after_op (Print text) canvas = drawn_text (chars text) canvas

-- The canvas after a list of operations; `None` if one of the operations scrolls a row off the page.
abbrev pub drawn_all : List Op → Canvas → Option Canvas
drawn_all [] canvas = Some canvas
drawn_all (op ∷ ops) canvas = and_then (drawn_all ops) (canvas_after_op op canvas)
