-- Attributes
pub mod Attributes
pub mod Packing
-- Cells
pub mod Glyphs
pub mod Cells
-- Output
pub mod Texts
pub mod Sinks
