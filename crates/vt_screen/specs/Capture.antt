-- Captures: the text of consecutive rows, with SGR as the only escape sequences.
use Rattle.std.specs.Prelude.{◌≡◌, ℕ, ◌<◌, List, [], ◌∷◌, ◌++◌, length, ◌⊎◌, ⊤}
use Rattle.std.proofs.Common.{inl, inr}
use Rattle.std.specs.Borrow.{MutBor}
use Rattle.std.specs.List.{fold}
use Rattle.vt_cells.specs.Sinks.{IsStopped}
use Rattle.vt_rows.specs.Basic.{Written, nothing_written, basic_text, written_after}
use Rattle.vt_rows.specs.Row.{RowValue}
use Rattle.vt_rows.specs.declared.capture.range.BasicFormattedCaptureRange.{BasicFormattedCaptureRange}
use Rattle.vt_rows.specs.declared.capture.range.BasicFormattedCaptureRange.TheVariants.{Full, Visible}
use Rattle.vt_screen.specs.Screen.{ScreenValue, above_page, visible_rows}

-- The text of consecutive rows, with SGR as the only escape sequences, continuing from a capture state.
abbrev pub basic_texts : Written → List RowValue → List ℕ
basic_texts written [] = []
basic_texts written (row ∷ rows) = basic_text written row ++ basic_texts (written_after written row) rows

abbrev pub written_after_all : Written → List RowValue → Written
written_after_all written rows = fold written_after written rows

-- All scrollback rows of the active page, followed by the rows of that page.
abbrev pub all_rows : ScreenValue → List RowValue
all_rows screen = (above_page screen).rows ++ screen.page.rows

-- The rows that a capture of the given range includes.
abbrev pub captured_rows : BasicFormattedCaptureRange → ScreenValue → List RowValue
captured_rows (Full state) screen = all_rows screen
captured_rows Visible screen = visible_rows screen

-- The capture state that a capture of the given range continues from.
abbrev pub given_state : BasicFormattedCaptureRange → Written
given_state (Full state) = state.now
given_state Visible = nothing_written

-- The text of a capture of the given range of a screen.
abbrev pub captured_text : BasicFormattedCaptureRange → ScreenValue → List ℕ
captured_text range screen = basic_texts (given_state range) (captured_rows range screen)

-- What remains of a capture range after the call that used it: the borrowed capture state, or nothing.
abbrev pub RangeLeft : Type 0
RangeLeft = (MutBor Written × ⊤) ⊎ (⊤ ⊎ ⊥)

-- The given predicate holds for the capture state that the caller passed, if any.
abbrev pub IfGiven : RangeLeft → (Written → Type 0) → Type 0
IfGiven (inl full) P = P full.0.now
IfGiven (inr visible) P = ⊤

-- A sink that contained `start` accepted the complete text of the first rows, possibly none, and failed within the
-- nonempty text of the next row, after which it contains `text`. `before` is the capture state before the rows, and
-- `state` is the capture state after the complete rows.
pub record StopsAfter (refuses : List ℕ → List ℕ → List ℕ → Type 0) (start : List ℕ) (before : Written)
    (rows : List RowValue) (text : List ℕ) (state : Written) : Type 0 where
  pub whole : List RowValue
  pub row : RowValue
  pub left : List RowValue
  pub parts : rows ≡ whole ++ row ∷ left
  pub written : state ≡ written_after_all before whole
  pub nonempty : 0 < length (basic_text state row)
  pub stopped : IsStopped refuses (start ++ basic_texts before whole) (basic_text state row) text
