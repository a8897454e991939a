-- The RGB values of cell colors
pub mod Colors
-- The colors, style and position of a glyph
pub mod Spots
