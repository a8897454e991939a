-- Mirrors and their viewers
pub mod Mirror
pub mod Calls
pub mod Watching
pub mod Healing
-- The program
pub mod Program
pub mod Runs
-- For invariants and private functions only
pub mod Kept
pub mod Internals
