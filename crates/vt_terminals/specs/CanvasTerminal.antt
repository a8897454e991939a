-- This project's own model of a terminal, as far as it reads output: a canvas.
use Rattle.std.specs.Prelude.{◌≡◌, ℕ, ◌+◌, ◌<◌, ◌≤◌, false, length, Option, Some}
use Rattle.vt_cells.specs.Attrs.{changed_attrs, default_attrs}
use Rattle.vt_cells.specs.Cell.{is_right_half}
use Rattle.vt_grid.specs.Canvas.{Canvas, canvas_after_line_feed, drawn_char}
use Rattle.vt_grid.specs.Erasing.{erased_below, erased_chars, erased_rest}
use Rattle.vt_grid.specs.Moves.{cursor_restored, cursor_saved, moved}
use Rattle.vt_grid.specs.Page.{cell_at}
use Rattle.vt_grid.specs.declared.grid.moves.CursorMove.TheVariants.{Return, Right, Left, To}
use Rattle.vt_terminals.specs.Element.{Element, Character, Cup, Cr, Cuf, Bs, Lf, Ed, El, Ech, SgrReset, Sgr, Dectcem}
use Rattle.vt_terminals.specs.Element.{Decsc, Decrc}
use Rattle.vt_terminals.specs.Sound.{IsSound}
use Rattle.vt_terminals.specs.Terminal.{Terminal}

-- A canvas of the given size whose page is sound.
pub record SoundCanvas (height width : ℕ) : Type 0 where
  pub canvas : Canvas
  pub sound : IsSound canvas.page
  pub tall : length canvas.page.rows ≡ height
  pub wide : canvas.page.width ≡ width

-- The canvas after an element, in the project's model; `None` if it scrolls a row off the page.
abbrev pub canvas_after_element : Element → Canvas → Option Canvas
canvas_after_element (Character c) canvas = drawn_char c canvas
canvas_after_element (Cup r c) canvas = Some (record canvas { page = moved (To r c) canvas.page })
canvas_after_element Cr canvas = Some (record canvas { page = moved Return canvas.page })
canvas_after_element (Cuf n) canvas = Some (record canvas { page = moved (Right n) canvas.page })
canvas_after_element Bs canvas = Some (record canvas { page = moved (Left 1) canvas.page })
canvas_after_element Lf canvas = canvas_after_line_feed canvas
canvas_after_element Ed canvas = Some (record canvas { page = erased_below canvas.attrs canvas.page })
canvas_after_element El canvas = Some (record canvas { page = erased_rest canvas.attrs canvas.page })
canvas_after_element (Ech n) canvas = Some (record canvas { page = erased_chars n canvas.attrs canvas.page })
canvas_after_element SgrReset canvas = Some (record canvas { attrs = default_attrs })
canvas_after_element (Sgr was new) canvas = Some (record canvas { attrs = changed_attrs was new canvas.attrs })
canvas_after_element (Dectcem hidden) canvas = Some (record canvas { hidden = hidden })
canvas_after_element Decsc canvas = Some (record canvas { page = cursor_saved canvas.page; saved_attrs = canvas.attrs })
canvas_after_element Decrc canvas =
    Some (record canvas { page = cursor_restored canvas.page; attrs = canvas.saved_attrs })

abbrev pub canvas_terminal : (height width : ℕ) → Terminal
canvas_terminal h w = record {
  State = SoundCanvas h w;
  height = h;
  width = w;
  Reads = λ element s t. canvas_after_element element s.canvas ≡ Some t.canvas;
  Shows = λ s r c x. cell_at s.canvas.page r c ≡ x;
  Begins = λ s r c. is_right_half (cell_at s.canvas.page r c) ≡ false;
  IsAt = λ s r c. (s.canvas.page.row ≡ r) × ((s.canvas.page.column ≡ c) × (c < w));
  IsPending = λ s r. (s.canvas.page.row ≡ r) × (s.canvas.page.column ≡ w);
  IsAtEnd = λ s r. (s.canvas.page.row ≡ r) × (w ≤ s.canvas.page.column + 1);
  HasAttrs = λ s a. s.canvas.attrs ≡ a;
  Hides = λ s hidden. s.canvas.hidden ≡ hidden;
  HasSaved = λ s r a.
      (s.canvas.page.saved_row ≡ r) × ((w ≤ s.canvas.page.saved_column + 1) × (s.canvas.saved_attrs ≡ a));
}
