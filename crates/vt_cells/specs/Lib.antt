-- Attributes, cells and operations
pub mod Attrs
pub mod Glyph
pub mod Cell
pub mod CellEq
pub mod Op
pub mod InputModes
-- Errors and sinks
pub mod Refusals
pub mod Sinks
-- For models, private contracts and proofs only
pub mod Internals
