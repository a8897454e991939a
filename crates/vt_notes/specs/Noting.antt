-- Callbacks that record each call as a note, and callbacks that append the reported rows to a capture.
use Rattle.std.specs.Prelude.{◌≡◌, map, string_bytes, ◌⊎◌, Bool, true, false, List, [], ◌∷◌, ◌++◌, ℕ}
use Rattle.vt_rows.specs.Basic.{basic_text, nothing_written, Written}
use Rattle.vt_rows.specs.Row.{RowValue}
use Rattle.vt_screen.specs.Calls as value
use Rattle.vt_screen.specs.Calls.{CallValue}
use Rattle.vt_screen.specs.Screen.{ScreenValue}
use Rattle.vt_notes.specs.declared.note.NotedRow.{NotedRow}
use Rattle.vt_notes.specs.declared.note.Note.{Note}
use Rattle.vt_notes.specs.declared.note.Note.TheVariants as note
use Rattle.vt_screen.specs.Capture.{basic_texts, written_after_all}
use Rattle.vt_screen.specs.Streamed.{row_of_call}

-- ==== The calls that notes record, and the values of stored rows.

-- The model value of a stored row: its cells, and whether it is wrapped.
abbrev pub row_of : NotedRow → RowValue
row_of row = record { cells = row.cells.items; wrapped = row.wrapped }

-- The call to a callback that a note records.
abbrev pub value_of : Note → CallValue
value_of note.AudibleBell = value.AudibleBell
value_of note.VisualBell = value.VisualBell
value_of (note.Resize size) = value.Resize size.0 size.1
value_of (note.SetWindowIconName name) = value.SetWindowIconName name.items
value_of (note.SetWindowTitle title) = value.SetWindowTitle title.items
value_of (note.CopyToClipboard kind text) = value.CopyToClipboard kind.items text.items
value_of (note.PasteFromClipboard kind) = value.PasteFromClipboard kind.items
value_of (note.UnhandledChar code) = value.UnhandledChar code
value_of (note.UnhandledControl byte) = value.UnhandledControl byte
value_of (note.UnhandledEscape first second byte) = value.UnhandledEscape first second byte
value_of (note.UnhandledCsi first second groups byte) =
    value.UnhandledCsi first second (map (λ group. group.items) groups.items) byte
value_of (note.UnhandledOsc parts) = value.UnhandledOsc (map (λ part. part.items) parts.items)
value_of (note.OnScroll row alternate) = value.OnScroll (row_of row) alternate

-- If the note records a call to `on_scroll`, the stored text is that of a capture of the reported row alone.
abbrev pub HasText : Note → Type 0
HasText (note.OnScroll row alternate) = string_bytes row.text ≡ basic_text nothing_written (row_of row)
HasText _ = Unit {0}

-- ==== The exact effect of callbacks that record each call as a note.

-- The recorded calls, in order, and whether all calls were recorded.
pub record Noted : Type 0 where
  pub calls : List CallValue
  pub is_complete : Bool

-- The initial state of the notes: no call is recorded, and no call is missing.
abbrev pub nothing_noted : Noted
nothing_noted = record { calls = []; is_complete = true }

-- The notes with the given call appended.
abbrev pub with_call : CallValue → Noted → Noted
with_call call noted = record noted { calls = noted.calls ++ call ∷ [] }

-- The notes after a call could not be recorded because an allocation failed.
abbrev pub with_gap : Noted → Noted
with_gap noted = record noted { is_complete = false }

-- The call is recorded with all its arguments, or the notes are marked as incomplete. The screen is unchanged.
abbrev pub NotesIt : CallValue → Noted → ScreenValue → Noted → ScreenValue → Type 0
NotesIt call old before new after = (after ≡ before) × ((new ≡ with_call call old) ⊎ (new ≡ with_gap old))

-- The text of a capture so far, the capture's state, and whether no part of the text is missing.
pub record Recorded : Type 0 where
  pub text : List ℕ
  pub state : Written
  pub is_whole : Bool

-- The initial state of a recording, which is empty and complete.
abbrev pub nothing_recorded : Recorded
nothing_recorded = record { text = []; state = nothing_written; is_whole = true }

-- The capture after the given rows are appended.
abbrev pub with_rows : List RowValue → Recorded → Recorded
with_rows rows old =
    record old { text = old.text ++ basic_texts old.state rows; state = written_after_all old.state rows }

-- The row of the main page that the call reports, if any, is appended to the capture, or the capture is marked as
-- incomplete. The screen is unchanged.
abbrev pub Records : CallValue → Recorded → ScreenValue → Recorded → ScreenValue → Type 0
Records call old before new after = (after ≡ before) × ((new ≡ with_rows (row_of_call call) old) ⊎ (new.is_whole ≡ false))
