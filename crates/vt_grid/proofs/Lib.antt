-- Operations leave a valid page
pub mod Pages
pub mod Shifting
pub mod Printing
pub mod Carries
pub mod Texts
-- Where rows are stored
pub mod Flats
pub mod Bounds
pub mod Scrolls
pub mod Packing
-- Resizes and scrollback
pub mod ScrollbackRows
pub mod Growing
pub mod Resizing
pub mod Heights
pub mod Widths
-- Examples
pub mod PageExamples
pub mod ShiftExamples
pub mod ScrollbackExamples
