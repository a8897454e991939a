-- Pictures and their output
pub mod Picture
pub mod Script
pub mod Redraw
pub mod Items
pub mod Steady
pub mod Locality
pub mod Moved
pub mod Shifted
pub mod Limited
pub mod Refusals
-- Portable output
pub mod Certain
pub mod Doubts
pub mod Uses
-- For models, private contracts and proofs only
pub mod Fits
pub mod Internals
