-- Pages
pub mod Page
pub mod Regions
pub mod Moves
pub mod Erasing
pub mod Shifts
pub mod Printing
pub mod Texts
pub mod Outgoing
pub mod PageStep
pub mod Canvas
-- Scrollback and resizes
pub mod Scrollback
pub mod Resize
pub mod Sending
-- For invariants and private functions only
pub mod PageRows
pub mod Lines
pub mod Flat
pub mod Internals
