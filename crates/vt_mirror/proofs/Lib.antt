-- Viewers and their notes
pub mod Bookkeeping
pub mod Keeping
pub mod Sharing
-- Viewers' displays
pub mod Watching
pub mod Healing
-- Runs of the program
pub mod Runs
pub mod Updating
