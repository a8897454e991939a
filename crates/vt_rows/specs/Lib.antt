-- Rows
pub mod Cells
pub mod Row
pub mod Texts
-- Texts of rows, and captures
pub mod Plain
pub mod Basic
pub mod Stretches
pub mod Pieces
pub mod CaptureRows
-- For private contracts and proofs only
pub mod Internals
