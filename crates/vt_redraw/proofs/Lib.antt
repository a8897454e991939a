-- Cells at boundaries, and single operations
pub mod Halves
pub mod Edits
pub mod Texts
pub mod Touched
-- Steady glyphs
pub mod Steady
pub mod SteadyWithout
pub mod SteadyTests
-- Rows of a picture
pub mod Places
pub mod Row
pub mod Link
pub mod Ranges
pub mod Wrapping
pub mod Joining
pub mod Rows
-- Pictures
pub mod Cursor
pub mod Difference
pub mod Redrawing
pub mod Viewing
pub mod Moving
pub mod LeastLengths
pub mod Saving
pub mod Examples
-- Items of single rows
pub mod ItemRanges
pub mod WholeItems
pub mod ItemDraws
-- The writers' code
pub mod Fitting
pub mod PictureFits
pub mod Filling
pub mod CellSteps
pub mod WriterSteps
pub mod Writing
-- Portable output
pub mod Certainty
pub mod PortableSteps
pub mod PortableParts
pub mod PortableLinks
pub mod PortableCells
pub mod PortableRows
pub mod PortableCursor
pub mod PortableScript
