-- Edits of a row
pub mod Edits
pub mod Steps
pub mod Moves
pub mod ShiftSteps
pub mod Rows
pub mod Texts
-- Texts of rows, and captures
pub mod RowTexts
pub mod Pieces
pub mod CaptureRows
pub mod CutRows
-- Examples
pub mod Examples
