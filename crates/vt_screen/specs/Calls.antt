-- The calls by which a terminal reports events to the program that uses it.
use Rattle.std.specs.Prelude.{ℕ, Bool, List, Option}
use Rattle.vt_rows.specs.Row.{RowValue}

pub data CallValue : Type 0 where
  AudibleBell : CallValue
  VisualBell : CallValue
  -- A request to resize the terminal to the given number of rows and columns.
  Resize : (rows cols : ℕ) → CallValue
  SetWindowIconName : (name : List ℕ) → CallValue
  SetWindowTitle : (title : List ℕ) → CallValue
  CopyToClipboard : (kind text : List ℕ) → CallValue
  PasteFromClipboard : (kind : List ℕ) → CallValue
  UnhandledChar : (code : ℕ) → CallValue
  UnhandledControl : (byte : ℕ) → CallValue
  UnhandledEscape : (first second : Option ℕ) (byte : ℕ) → CallValue
  UnhandledCsi : (first second : Option ℕ) (groups : List (List ℕ)) (byte : ℕ) → CallValue
  UnhandledOsc : (parts : List (List ℕ)) → CallValue
  -- A report of a row that scrolled off the top of a page and isn't kept, or that was dropped from scrollback.
  -- `alternate` is true if the row comes from the alternate page.
  OnScroll : (row : RowValue) (alternate : Bool) → CallValue
