pub mod Stored
pub mod Styles
pub mod ItemLists
pub mod PackedCells
pub mod Unpacked
pub mod Written
pub mod Sizes
