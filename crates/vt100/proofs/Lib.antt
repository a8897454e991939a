-- Runs of a parser
pub mod Running
pub mod Quiet
pub mod Streams
pub mod PlainParsers
pub mod Erasing
-- Steps
pub mod Stepping
pub mod PrintedRuns
